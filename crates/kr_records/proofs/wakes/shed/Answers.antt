use Rattle.std.proofs.Common.{◌≡◌, ◌==◌, ◌-◌, ◌<◌, ◌∙◌, length, true, false, ap, sym, subst, arith}
use Rattle.std.proofs.lemmas.Grind.{common_steps}
use Rattle.std.specs.List.{list_any}
use Rattle.kr_records.specs.Waits.{is_blocked_in}
use Rattle.kr_records.proofs.Deadlocked.{deadlocked_stay, held_more, same_at, stayed}
use Rattle.kr_records.proofs.wakes.shed.Goals as goal

pub loop-place-preserved-then-not-is_held : goal.loop-place-preserved-then-not-is_held
loop-place-preserved-then-not-is_held c =
    let ws = c.loop-place.waits.items in
    let i = c.loop-place.place - 1 in
    let x = c.swap_remove.result in
    let within : i < length ws = omega (arith, c.loop-place.invariant.there, c.loop-place-test.true) in
    let its : c.deref-in-loop-place.result.now ≡ x.blockers.items = c.deref-in-loop-place.ensures.value ∙ ap (λ w. w.blockers.items) (same_at ws i c.index.result.now x within c.index.ensures c.swap_remove.ensures.value) in
    let none : list_any (λ u. list_any (λ w. w.txn == u) ws) x.blockers.items ≡ false =
    subst (λ us. list_any (λ u. list_any (λ w. w.txn == u) ws) us ≡ false) its
    (subst (λ l. list_any (λ u. list_any (λ w. w.txn == u) l) c.deref-in-loop-place.result.now ≡ false) c.deref.ensures.value (sym c.is_held.ensures ∙ c.if-not-is_held.true)) in
    record {
      there = omega (arith, c.loop-place.invariant.there, c.loop-place-test.true, c.swap_remove.ensures.len);
      few = omega (arith, c.loop-place.invariant.few, c.swap_remove.ensures.len);
      held = λ same. absurd (omega (arith, same, c.loop-place.invariant.few, c.swap_remove.ensures.len));
      given = λ w there. c.loop-place.invariant.given w (stayed ws c.swap_remove.new.self.items i x within c.swap_remove.ensures.value c.swap_remove.ensures.items w there);
      kept = λ blockers txns tied all. deadlocked_stay ws c.swap_remove.new.self.items i x within c.swap_remove.ensures.value c.swap_remove.ensures.items none blockers txns tied (c.loop-place.invariant.kept blockers txns tied all);
    }

pub loop-place-preserved : goal.loop-place-preserved
loop-place-preserved c =
    let ws = c.loop-place.waits.items in
    let blocked : is_blocked_in ws c.index.result.now ≡ true =
    subst (λ us. list_any (λ u. list_any (λ w. w.txn == u) ws) us ≡ true) c.deref-in-loop-place.ensures.value
    (subst (λ l. list_any (λ u. list_any (λ w. w.txn == u) l) c.deref-in-loop-place.result.now ≡ true) c.deref.ensures.value (sym c.is_held.ensures ∙ c.if-not-is_held.false)) in
    record {
      there = omega (arith, c.loop-place.invariant.there);
      few = c.loop-place.invariant.few;
      held = λ same. held_more ws c.loop-place.place c.index.result.now c.loop-place-test.true c.loop-place.invariant.there c.index.ensures blocked (c.loop-place.invariant.held same);
      given = c.loop-place.invariant.given;
      kept = c.loop-place.invariant.kept;
    }

pub returns-clause-held : goal.returns-clause-held
returns-clause-held c = λ none j d within. c.loop-place.invariant.held (grind (arith, common_steps)) j (omega (arith, c.loop-place-test.false)) within d
