use Rattle.std.proofs.Common.{◌≡◌, ◌==◌, ◌||◌, ◌∙◌, ℕ, List, ◌∷◌, false, subst, sym}
use Rattle.std.specs.List.{list_any}
use Rattle.std.specs.Option.{IfSome, IfNone}
use Rattle.kr_model.specs.declared.Event.{Event}
use Rattle.kr_deadlock.specs.Waits.{blockers_of, IsCycle}
use Rattle.kr_deadlock.proofs.Cycles.{IsCycle-same}
use Rattle.kr_records.specs.Histories.{event}
use Rattle.kr_records.specs.Waits.{blockers_now, in_the_way}
use Rattle.kr_records.proofs.Blockers.{no_cycle_without}
use Rattle.kr_engine.proofs.waits.cycle_of.Goals as goal

-- none of those that block the requester is it or waits
pub returns-then-not-may_close-clause-none : goal.returns-then-not-may_close-clause-none
returns-then-not-may_close-clause-none g c =
    let f = in_the_way (g.P.Protocol.table c.args.machine.now.protocol) c.args.machine.now.state in
    let noted = c.args.noted.now in
    no_cycle_without f (event c.args.txn c.args.op) noted
    (subst (λ (us : List ℕ). list_any (λ u. (u == c.args.txn) || list_any (λ (e : Event). e.txn == u) noted) us ≡ false) (c.deref.ensures.value ∙ c.in_ok-own.ensures) (sym c.may_close.ensures ∙ c.if-not-may_close.true))

pub returns-in-Some-clause-cycle : goal.returns-in-Some-clause-cycle
returns-in-Some-clause-cycle g c =
    let es = event c.args.txn c.args.op ∷ c.args.noted.now in
    let now = blockers_now (in_the_way (g.P.Protocol.table c.args.machine.now.protocol) c.args.machine.now.state) es in
    let all : (t : ℕ) → blockers_of c.in_ok-waits.waits.items t ≡ now t = c.in_ok-waits.ensures in
    let same : (t : ℕ) → blockers_of c.deref-2.result.now t ≡ now t = subst (λ ws. (t : ℕ) → blockers_of ws t ≡ now t) (sym c.deref-2.ensures.value) all in
    subst (IsCycle now c.args.txn) (sym c.from_vec.ensures) (IsCycle-same _ _ same c.args.txn c.in-Some.cycle.items (subst (λ o. IfSome o (λ cycle. IsCycle (blockers_of c.deref-2.result.now) c.args.txn cycle.items)) c.in-Some.is c.in_ok-cycle.ensures.cycle))

pub returns-clause-none : goal.returns-clause-none
returns-clause-none g c =
    let es = event c.args.txn c.args.op ∷ c.args.noted.now in
    let now = blockers_now (in_the_way (g.P.Protocol.table c.args.machine.now.protocol) c.args.machine.now.state) es in
    let all : (t : ℕ) → blockers_of c.in_ok-waits.waits.items t ≡ now t = c.in_ok-waits.ensures in
    let same : (t : ℕ) → blockers_of c.deref-2.result.now t ≡ now t = subst (λ ws. (t : ℕ) → blockers_of ws t ≡ now t) (sym c.deref-2.ensures.value) all in
    λ cycle is. subst (λ o. IfNone o ((cycle : List ℕ) → IsCycle (blockers_of c.deref-2.result.now) c.args.txn cycle → ⊥)) c.in-None.is c.in_ok-cycle.ensures.none cycle (IsCycle-same _ _ (λ t. sym (same t)) c.args.txn cycle is)
