use Rattle.std.proofs.Common.{◌≡◌, ◌+◌, ◌++◌, ◌∷◌, [], List, Some, sym, ap, ◌∙◌, subst, arith, refl}
use mathlib.Core.List.{IsPrefix}
use Rattle.kr_records.specs.declared.name.Entry.{Entry}
use Rattle.kr_records.specs.Histories.{entries_of, entry, event}
use Rattle.kr_records.specs.Seats.{Held}
use Rattle.kr_records.proofs.Counts.{entries_of-within}
use Rattle.kr_records.proofs.Showing.{shows, own_more}
use Rattle.kr_engine.proofs.kernel.Core.attempt_under_lock.Goals as goal

pub overflow_add-seat : goal.overflow_add-seat
overflow_add-seat g c =
    let f = c.fits.ensures.0 c.if-not-fits.false in
    let own : entries_of c.args.seat.now.seat c.args.self.now.entries ≡ c.args.seat.now.count = f.2 in
    let same : c.seat.inside.count ≡ c.args.seat.now.count = ap (λ (h : Held). h.count) c.seat.view_is in
    let r = c.in-Ok.ensures.receipt in
    let s = c.in-Ok.ensures.small in
    omega (arith, own, same, entries_of-within c.args.seat.now.seat c.args.self.now.entries, r.0, s)

pub invariant_of-seat : goal.invariant_of-seat
invariant_of-seat g c =
    let f = c.fits.ensures.0 c.if-not-fits.false in
    let own : entries_of c.seat.inside.seat c.args.self.now.entries ≡ c.seat.inside.count = (λ i. entries_of (ap (λ (h : Held). h.seat) c.seat.view_is i) c.args.self.now.entries) ∙ f.2 ∙ sym (ap (λ (h : Held). h.count) c.seat.view_is) in
    ap (entries_of c.seat.inside.seat) (c.show_history.ensures.all ∙ c.in-Ok.ensures.entry) ∙ own_more c.seat.inside.seat c.seat.inside.count c.args.self.now.entries (entry c.seat.inside.seat (event c.in-Some.txn c.args.op) c.in-Ok.receipt.reply) refl own

pub returns-in-Ok-clause-done : goal.returns-in-Ok-clause-done
returns-in-Ok-clause-done g c =
    let f = c.fits.ensures.0 c.if-not-fits.false in
    let s = c.in-Ok.ensures in
    let place = c.in-Ok.receipt.place in
    let seat : c.seat.inside.seat ≡ c.args.seat.now.seat = ap (λ (h : Held). h.seat) c.seat.view_is in
    let view : c.seat.inside.view ≡ c.args.seat.now.view = ap (λ (h : Held). h.view) c.seat.view_is in
    let speaks : c.args.seat.now.speaks ≡ Some c.in-Some.txn = sym (ap (λ (h : Held). h.speaks) c.seat.view_is) ∙ c.in-Some.is in
    let new : Held = record { seat = c.seat.inside.seat; speaks = c.seat.inside.speaks; count = c.seat.inside.count + 1; last = Some place; view = c.show_history.new.view } in
    let others : new ≡ record c.args.seat.now { count = c.args.seat.now.count + 1; last = Some place; view = new.view } = ap (λ (h : Held). record h { count = h.count + 1; last = Some place; view = c.show_history.new.view }) c.seat.view_is in
    let core = c.perform-result.new.self in
    let more : core.entries ≡ c.args.self.now.entries ++ entry c.args.seat.now.seat (event c.in-Some.txn c.args.op) c.in-Ok.receipt.reply ∷ [] = s.entry ∙ (λ i. c.args.self.now.entries ++ entry (seat i) (event c.in-Some.txn c.args.op) c.in-Ok.receipt.reply ∷ []) in
    let begins : IsPrefix c.args.seat.now.view core.entries = subst (λ (x : List Entry × List Entry). IsPrefix x.0 x.1) (λ i. (view i, c.show_history.ensures.all i)) c.show_history.ensures.begins in
    shows g.K.EngineName.table g.K.EngineName.opening core.state c.args.seat.now new c.args.op c.in-Ok.receipt c.in-Some.txn c.args.self.now.entries core.entries c.show_history.ensures.run speaks more s.receipt.1 s.receipt.0 f.0 begins c.show_history.ensures.all others f.2
