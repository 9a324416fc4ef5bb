use Rattle.std.proofs.Common.{◌≡◌, ◌∷◌, List, Some, true, sym, ap, ◌∙◌, subst}
use Rattle.kr_model.specs.Protocol.{Protocol}
use Rattle.kr_deadlock.specs.Waits.{IsCycle}
use Rattle.kr_records.specs.declared.name.Entry.{Entry}
use Rattle.kr_records.specs.Faults.{is_blocked}
use Rattle.kr_records.specs.Histories.{IsHistory, event}
use Rattle.kr_records.specs.Waits.{in_the_way, blockers_now, TellsCycle}
use Rattle.kr_records.specs.Seats.{Held}
use Rattle.kr_records.proofs.Showing.{waited, blocked_refusal, blocked_saw}
use Rattle.kr_engine.proofs.kernel.Core.attempt_or_wait.Goals as goal

pub returns-in-Err-wait-clause-fault : goal.returns-in-Err-wait-clause-fault
returns-in-Err-wait-clause-fault g c =
    let p = g.K.EngineName.table in
    let m = g.K.EngineName.opening in
    let old = c.args.seat.now in
    let new = c.attempt_under_lock.new.seat in
    let core = c.attempt_under_lock.new.self in
    let f = c.in-Err.fault in
    let s = c.in-Err.ensures in
    let blocked : is_blocked f ≡ true = sym c.is_blocked.ensures ∙ c.if-is_blocked.true in
    let seen : new.view ≡ core.entries = s.seen (blocked_refusal f blocked) in
    let tells : TellsCycle c.in-Err-wait.stuck (IsCycle (blockers_now (in_the_way p core.state) (event c.in-Some.txn c.args.op ∷ core.waiting)) c.in-Some.txn) =
    subst (λ (q : Protocol). TellsCycle c.in-Err-wait.stuck (IsCycle (blockers_now (in_the_way q core.state) (event c.in-Some.txn c.args.op ∷ core.waiting)) c.in-Some.txn)) c.lemma_invariant.ensures.table c.in-Err-wait.ensures.cycle in
    let speaks : old.speaks ≡ Some c.in-Some.txn = sym (ap (λ (h : Held). h.speaks) c.seat.view_is) ∙ c.in-Some.is in
    waited p m old new c.args.op c.in-Err-wait.stuck core.state core.waiting c.in-Some.txn c.in-Err-wait.ensures.faults tells
    (subst (λ (l : List Entry). IsHistory p m l core.state) (sym seen) c.lemma_invariant.ensures.run) c.attempt_under_lock.ensures.begins speaks (blocked_saw p m old new c.args.op f s.faults s.fault)
