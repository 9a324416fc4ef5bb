use Rattle.std.proofs.lemmas.Grind.{common_steps}
use Rattle.std.proofs.Common.{◌≡◌, ◌+◌, ◌<◌, ◌≤◌, ◌++◌, ◌∷◌, [], length, ℕ, List, true, All, sym, ap, ◌∙◌, subst, arith, refl, length-append, ⊎_elim}
use Rattle.std.proofs.lemmas.List.Elements.{All-push}
use Rattle.std.specs.Prelude.{slice_set}
use Rattle.kr_model.specs.Protocol.{Protocol}
use Rattle.kr_model.specs.State.{State}
use Rattle.kr_records.specs.declared.notes.SeatNote.{SeatNote}
use Rattle.kr_model.specs.Step.{step}
use Rattle.kr_records.specs.declared.name.Entry.{Entry}
use Rattle.kr_model.specs.Run.{is_granted}
use Rattle.kr_records.specs.Histories.{IsHistory, entry, event}
use Rattle.kr_records.specs.Numbers.{begun_by, was_begun, is_begun}
use Rattle.kr_records.specs.Cores.{CountsAre, LastAre, AreOfSeats}
use Rattle.kr_records.proofs.Counts.{counts_more, counts_within}
use Rattle.kr_records.proofs.Begun.{begun_by_one}
use Rattle.kr_records.proofs.Ended.{ended_after}
use Rattle.kr_records.proofs.Histories.{history_more}
use Rattle.kr_records.proofs.Lists.{some_has}
use Rattle.kr_records.proofs.Spoken.{last_stay, given_stay}
use Rattle.kr_engine.proofs.kernel.Core.perform.Goals as goal

pub overflow_add-index_mut : goal.overflow_add-index_mut
overflow_add-index_mut g c =
    let i = c.self.invariant in
    let all : length g.K.EngineName.places ≤ 1000000 = omega (arith, c.len-places.ensures.length, ap (λ (l : List ℕ). length l) c.requires.row, c.len-places.ensures.small) in
    let seat : c.args.seat < length c.self.inside.seats.items = rw (ap (λ (v : _). length v.seats) c.self.view_is) c.requires.seat in
    omega (arith, counts_within c.self.inside.seats.items c.self.inside.history c.args.seat c.index_mut.result.now i.counts seat c.index_mut.ensures.value, i.room, all)

pub write-requires-clause-begun : goal.write-requires-clause-begun
write-requires-clause-begun g c = begun_by_one c.self.inside.numbers c.args.txn c.args.seat (ap (λ (v : _). is_begun v.numbers c.args.txn c.args.seat) c.self.view_is ∙ c.requires.begun)

pub invariant_of-self-2 : goal.invariant_of-self-2
invariant_of-self-2 g c =
    let i = c.self.invariant in
    let s = c.in-Ok.ensures in
    let old = c.self.inside.machine in
    let new = c.write.new.machine in
    let p = g.P.Protocol.table in
    let e : Entry = entry c.args.seat (event c.args.txn c.args.op) c.in-Ok.done.0 in
    let es = c.self.inside.history in
    let after : State = (step g.K.EngineName.table old.state c.args.txn c.args.op).1 in
    let more : c.add.new.self ≡ es ++ e ∷ [] = some_has (λ (x : Entry). c.add.new.self ≡ es ++ x ∷ []) c.in-Ok.done.1.known e s.note.1 c.add.ensures in
    let seat : c.args.seat < length c.self.inside.seats.items = rw (ap (λ (v : _). length v.seats) c.self.view_is) c.requires.seat in
    let longer : length c.add.new.self ≡ length es + 1 = ap (λ (l : List Entry). length l) more ∙ length-append es (e ∷ []) in
    let own : is_begun (begun_by c.self.inside.numbers) c.args.txn c.args.seat ≡ true = ap (λ (v : _). is_begun v.numbers c.args.txn c.args.seat) c.self.view_is ∙ c.requires.begun in
    let granted : is_granted (step (p old.protocol) old.state c.args.txn c.args.op).0 ≡ true = sym (ap is_granted s.reply.0) ∙ s.reply.1 in
    let up : SeatNote = record { count = c.index_mut.result.now.count + 1; last = c.index_mut.result.now.last; left = c.index_mut.result.now.left } in
    record {
      table = ap p s.protocol ∙ i.table;
      at_rest = s.at_rest;
      is_map = i.is_map;
      begun =
          subst (λ (l : List Entry). All (λ x. is_begun (begun_by c.write.new.numbers) x.event.txn x.seat ≡ true) l) (sym more)
          (subst (λ (ns : List (ℕ × ℕ)). All (λ x. is_begun ns x.event.txn x.seat ≡ true) (es ++ e ∷ [])) (sym s.begun)
          (All-push (λ (x : Entry). is_begun (begun_by c.self.inside.numbers) x.event.txn x.seat ≡ true) es e i.begun own));
      ended = λ t h. ap (λ (ns : List (ℕ × ℕ)). was_begun ns t) s.begun
          ∙ ⊎_elim (λ same. ap (was_begun (begun_by c.self.inside.numbers)) (sym same) ∙ begun_by_one c.self.inside.numbers c.args.txn c.args.seat own) (λ had. i.ended t had)
          (ended_after (p old.protocol) old.state new.state c.args.txn c.args.op granted s.state t h);
      ends = s.ends;
      history =
          subst (λ (x : State). IsHistory g.K.EngineName.table g.K.EngineName.opening c.add.new.self x) (sym (s.state ∙ ap (λ (q : Protocol). (step q old.state c.args.txn c.args.op).1) i.table))
          (subst (λ (l : List Entry). IsHistory g.K.EngineName.table g.K.EngineName.opening l after) (sym more)
          (history_more g.K.EngineName.table g.K.EngineName.opening es old.state e i.history (s.reply.0 ∙ ap (λ (q : Protocol). (step q old.state c.args.txn c.args.op).0) i.table) s.reply.1));
      counts = subst (λ (l : List Entry). CountsAre (slice_set c.self.inside.seats.items c.args.seat up) l) (sym more) (counts_more c.self.inside.seats.items es e c.args.seat c.index_mut.result.now up i.counts refl seat c.index_mut.ensures.value refl);
      lasts = subst (λ (ns : List (ℕ × ℕ)). LastAre ns (slice_set c.self.inside.seats.items c.args.seat up)) (sym s.begun) (last_stay (begun_by c.self.inside.numbers) c.self.inside.seats.items c.args.seat c.index_mut.result.now up i.lasts seat c.index_mut.ensures.value refl);
      given = subst (λ (ns : List (ℕ × ℕ)). AreOfSeats ns (slice_set c.self.inside.seats.items c.args.seat up)) (sym s.begun) (given_stay (begun_by c.self.inside.numbers) c.self.inside.seats.items c.args.seat up i.given);
      kept_is = omega (arith, c.kept_after-self-inside.ensures, s.freed.0, i.kept_is);
      room = omega (arith, c.kept_after-self-inside.ensures, s.freed.0, s.freed.1, i.kept_is, longer, c.len-place.ensures.length, ap (λ (l : List ℕ). length l) c.requires.row);
    }

pub returns-clause-small : goal.returns-clause-small
returns-clause-small g c = omega (arith, c.in-Ok.ensures.room, c.len-places.ensures.length, c.len-places.ensures.small)

pub returns-clause-entry : goal.returns-clause-entry
returns-clause-entry g c = grind (arith, common_steps)

pub returns-clause-receipt : goal.returns-clause-receipt
returns-clause-receipt g c = grind (arith, common_steps)
