use Rattle.std.proofs.Common.{ℕ, ◌+◌, ◌-◌, List, ap, sym, ◌∙◌, refl, subst, arith}
use Rattle.std.proofs.lemmas.Grind.{common_steps}
use Rattle.std.specs.Prelude.{IsTrue, unwrap_or, ◌≡◌}
use Rattle.std.specs.Ordering.{nat_cmp}
use Rattle.std.specs.FinMap.{find, put, is_sorted}
use Rattle.kr_model.specs.State.{Active, idle}
use Rattle.kr_model.specs.Step.{step}
use Rattle.kr_model.specs.declared.Op.TheVariants as op
use Rattle.kr_model.specs.declared.Reply.TheVariants as reply
use Rattle.kr_txn.specs.Standings.{active_of, entries}
use Rattle.kr_txn.proofs.Lists.{find-without, put_back, put-rest, in_order-without}
use Rattle.kr_touch.specs.Pins.{changes_of, all_changes_of}
use Rattle.kr_plan.proofs.Refused.{change_length}
use Rattle.kr_machine.proofs.Steps.{stepped_back, back_answers, back_has_changes, back_is_active}
use Rattle.kr_touch.proofs.Pins.{noted-without}
use Rattle.kr_machine.proofs.reserve.reserve_back.Goals as goal

pub returns-in-Some-clause-seen_active : goal.returns-in-Some-clause-seen_active
returns-in-Some-clause-seen_active g c = ap (λ es. put nat_cmp c.args.txn (active_of c.in-Some.standing) es) c.take_out.ensures.rest ∙ put_back c.args.txn (entries c.args.active.now.items) c.requires.at_rest.standing (active_of c.in-Some.standing) (sym c.in-Some.ensures.found)

pub returns-in-Some-clause-reply : goal.returns-in-Some-clause-reply
returns-in-Some-clause-reply g c =
    back_answers (g.P.Protocol.table c.args.protocol.now) (g.I.Ordered.map c.args.index.now) (g.L.Holdings.locks c.args.locks.now) c.args.ended.now.numbers (entries c.args.active.now.items) c.args.txn c.requires.allowed
    c.in-Some.standing.changes.items (ap (λ o. (unwrap_or o idle).changes) c.in-Some.ensures.found)
    ∙ ap (λ n. reply.Undone (n - 1)) (sym (change_length c.in-Some.standing.changes))

pub returns-in-Some-clause-some : goal.returns-in-Some-clause-some
returns-in-Some-clause-some g c =
    let some = back_has_changes (g.P.Protocol.table c.args.protocol.now) (g.I.Ordered.map c.args.index.now) (g.L.Holdings.locks c.args.locks.now) c.args.ended.now.numbers (entries c.args.active.now.items) c.args.txn c.requires.allowed
    c.in-Some.standing.changes.items (ap (λ o. (unwrap_or o idle).changes) c.in-Some.ensures.found) in
    let same = change_length c.in-Some.standing.changes in
    omega (arith, some, same)

pub returns-in-None-clause-there : goal.returns-in-None-clause-there
returns-in-None-clause-there g c none =
    back_is_active (g.P.Protocol.table c.args.protocol.now) (g.I.Ordered.map c.args.index.now) (g.L.Holdings.locks c.args.locks.now) c.args.ended.now.numbers (entries c.args.active.now.items) c.args.txn c.requires.allowed
    (sym c.take_out.ensures.found ∙ grind (arith, common_steps))

pub returns-in-Some-clause-ok : goal.returns-in-Some-clause-ok
returns-in-Some-clause-ok g c =
    let rest = c.requires.at_rest in
    let p = g.P.Protocol.table c.args.protocol.now in
    let m = g.I.Ordered.map c.args.index.now in
    let h = g.L.Holdings.locks c.args.locks.now in
    let a = active_of c.in-Some.standing in
    let es = entries c.args.active.now.items in
    let is_a : a ≡ unwrap_or (find nat_cmp c.args.txn es) idle = ap (λ o. unwrap_or o idle) c.in-Some.ensures.found in
    let seen = ap (λ xs. put nat_cmp c.args.txn a xs) c.take_out.ensures.rest ∙ put_back c.args.txn es rest.standing a (sym c.in-Some.ensures.found) in
    let stepped = ap (λ (xs : List (ℕ × Active)). let o = step p (record { map = m; locks = h; ended = c.args.ended.now.numbers; active = xs }) c.args.txn op.Back in o.1) seen
    ∙ stepped_back p m h c.args.ended.now.numbers es c.args.txn c.requires.allowed (entries c.take_out.new.list.items) a is_a
    (λ x. ap (λ xs. put nat_cmp c.args.txn x xs) c.take_out.ensures.rest ∙ put-rest c.args.txn es rest.standing x) in
    let noted : (q : ℕ) → all_changes_of es q ≡ all_changes_of (entries c.take_out.new.list.items) q + changes_of a.changes q =
    λ q. noted-without c.args.txn es a q rest.standing (sym c.in-Some.ensures.found) ∙ ap (λ xs. all_changes_of xs q + changes_of a.changes q) (sym c.take_out.ensures.rest) in
    let order = subst (λ xs. IsTrue (is_sorted nat_cmp xs)) (sym c.take_out.ensures.rest) (in_order-without c.args.txn es rest.standing) in
    record {
      in_order = rest.in_order;
      within = rest.within;
      no_none = rest.no_none;
      standing = order;
      room = omega (arith, rest.room, c.in-Some.ensures.some);
      has_pins = λ q.
          let x = rest.has_pins q in
          let y = noted q in
          omega (arith, x, y);
      reserved = record {
        stepped = stepped;
        itself = c.in-Some.ensures.txn;
        same_op = refl;
        apart = rw c.take_out.ensures.rest (find-without c.args.txn es);
        within = rest.within;
        no_none = rest.no_none;
        in_order = rest.in_order;
        noted = λ q. ap (λ xs. all_changes_of xs q) seen ∙ noted q;
        room_ended = omega (arith, rest.room, c.in-Some.ensures.some);
        room_back = λ _. grind (arith, common_steps, c.in-Some.ensures.some, c.take_out.ensures.capacity);
        can_finish = grind (arith, common_steps, c.in-Some.ensures.some, c.take_out.ensures.capacity);
      };
    }
