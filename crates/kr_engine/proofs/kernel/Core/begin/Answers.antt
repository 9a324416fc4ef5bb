use Rattle.std.proofs.lemmas.Grind.{common_steps}
use Rattle.std.proofs.Common.{◌≡◌, ◌<◌, ◌+◌, ◌++◌, ◌∷◌, [], length, ℕ, List, Some, true, false, All, sym, ap, ◌∙◌, refl, subst, arith}
use Rattle.kr_records.specs.declared.numbers.Number.{Number}
use Rattle.kr_records.specs.Numbers.{begun_by, was_begun, is_begun, ends_kept, HaveEnds}
use Rattle.std.specs.Prelude.{slice_set}
use Rattle.kr_records.specs.Cores.{LastAre, AreOfSeats}
use Rattle.kr_records.proofs.Counts.{counts_stay}
use Rattle.kr_records.proofs.Ends.{ends_more}
use Rattle.kr_records.proofs.Spoken.{last_more, given_more}
use Rattle.kr_records.proofs.Ended.{begun_with, ended_with_one, ends_with, live}
use Rattle.kr_engine.proofs.kernel.Core.begin.Goals as goal

pub invariant_of-self : goal.invariant_of-self
invariant_of-self g c =
    let i = c.self.invariant in
    let ns = c.self.inside.numbers in
    let s = c.self.inside.machine.state in
    let n : Number = record { txn = c.args.txn; seat = c.args.seat; end = Some c.in-Ok.end } in
    let more : c.add.new.self ≡ ns ++ n ∷ [] = c.in-Ok-add.ensures.ok in
    let never : was_begun (begun_by ns) c.args.txn ≡ false = sym c.has.ensures ∙ c.if-has.false in
    let seat : c.args.seat < length c.self.inside.seats.items = rw (ap (λ (v : _). length v.seats) c.self.view_is) c.requires.seat in
    record {
      table = i.table;
      at_rest = i.at_rest;
      is_map = i.is_map;
      history = i.history;
      counts = counts_stay c.self.inside.seats.items c.self.inside.history c.args.seat c.index_mut.result.now _ i.counts seat c.index_mut.ensures.value refl;
      lasts = subst (λ (l : List Number). LastAre (begun_by l) (slice_set c.self.inside.seats.items c.args.seat (record c.index_mut.result.now { last = Some c.args.txn }))) (sym more) (last_more ns n c.self.inside.seats.items (record c.index_mut.result.now { last = Some c.args.txn }) i.lasts seat refl);
      given = subst (λ (l : List Number). AreOfSeats (begun_by l) (slice_set c.self.inside.seats.items c.args.seat (record c.index_mut.result.now { last = Some c.args.txn }))) (sym more) (given_more ns n c.self.inside.seats.items (record c.index_mut.result.now { last = Some c.args.txn }) i.given seat);
      begun = subst (λ (l : List Number). All (λ e. is_begun (begun_by l) e.event.txn e.seat ≡ true) c.self.inside.history) (sym more) (begun_with ns n c.self.inside.history i.begun);
      ended = λ t h. ap (λ (l : List Number). was_begun (begun_by l) t) more ∙ ended_with_one s ns n i.ended t h;
      ends = subst (HaveEnds s) (sym more) (ends_with s ns n refl (live s ns c.args.txn i.ended never) i.ends);
      kept_is = ap (λ (k : ℕ). k + 1) i.kept_is ∙ sym (ap ends_kept more ∙ ends_more ns c.args.txn c.args.seat c.in-Ok.end);
      room = omega (arith, i.room, c.if-self-places.false, c.len-places.ensures.length, ap (λ (l : List ℕ). length l) c.requires.row, c.len-place.ensures.length);
    }

pub returns-then-self-places-clause-only_full : goal.returns-then-self-places-clause-only_full
returns-then-self-places-clause-only_full g c = grind (arith, common_steps)

pub returns-then-has-clause-only_taken : goal.returns-then-has-clause-only_taken
returns-then-has-clause-only_taken g c = grind (arith, common_steps)

pub returns-then-has-clause-full : goal.returns-then-has-clause-full
returns-then-has-clause-full g c = grind (arith, common_steps)
