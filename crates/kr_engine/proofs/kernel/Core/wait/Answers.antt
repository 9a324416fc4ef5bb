use Rattle.std.proofs.Common.{ℕ, List, ◌∷◌, subst}
use Rattle.std.specs.Option.{IfNone}
use Rattle.kr_deadlock.specs.Waits.{IsCycle}
use Rattle.kr_records.specs.Histories.{event}
use Rattle.kr_records.specs.Waits.{blockers_now, in_the_way}
use Rattle.kr_records.proofs.Lists.{some_has, on_ok}
use Rattle.kr_records.proofs.Waiting.{cycle_waits, cycle_back}
use Rattle.kr_engine.proofs.kernel.Core.wait.Goals as goal

pub returns-in-Some-clause-cycle : goal.returns-in-Some-clause-cycle
returns-in-Some-clause-cycle g c =
    let p = g.P.Protocol.table in
    let m = c.self.inside.machine in
    let e = event c.args.txn c.args.op in
    subst (λ v. IsCycle (blockers_now (in_the_way (p v.protocol) v.state) (e ∷ v.waiting)) c.args.txn c.in-Some.cycle) c.self.view_is
    (subst (λ es. IsCycle (blockers_now (in_the_way (p m.protocol) m.state) (e ∷ es)) c.args.txn c.in-Some.cycle) c.deref.ensures.value
    (some_has (IsCycle (blockers_now (in_the_way (p m.protocol) m.state) (e ∷ c.deref.result.now)) c.args.txn) c.in-Ok.found c.in-Some.cycle c.in-Some.is c.in-Ok.ensures.cycle))

pub returns-after-note-clause-no_cycle : goal.returns-after-note-clause-no_cycle
returns-after-note-clause-no_cycle g c =
    let p = g.P.Protocol.table in
    let m = c.self.inside.machine in
    let e = event c.args.txn c.args.op in
    on_ok c.match-note.result _
    (subst (λ v. (cycle : List ℕ) → IsCycle (blockers_now (in_the_way (p v.protocol) v.state) (e ∷ v.waiting)) c.args.txn cycle → ⊥) c.self.view_is
    (subst (λ es. (cycle : List ℕ) → IsCycle (blockers_now (in_the_way (p m.protocol) m.state) (e ∷ es)) c.args.txn cycle → ⊥) c.deref.ensures.value
    (subst (λ o. IfNone o ((cycle : List ℕ) → IsCycle (blockers_now (in_the_way (p m.protocol) m.state) (e ∷ c.deref.result.now)) c.args.txn cycle → ⊥)) c.in-None.is c.in-Ok.ensures.none)))

pub returns-in-Some-clause-deadlock : goal.returns-in-Some-clause-deadlock
returns-in-Some-clause-deadlock g c =
    let v = c.args.self.now in
    cycle_waits (g.P.Protocol.table v.protocol) v.state (event c.args.txn c.args.op ∷ v.waiting) c.args.txn c.in-Some.cycle (returns-in-Some-clause-cycle g c)

pub returns-after-note-clause-no_deadlock : goal.returns-after-note-clause-no_deadlock
returns-after-note-clause-no_deadlock g c =
    let p = g.P.Protocol.table in
    let m = c.self.inside.machine in
    let v = c.args.self.now in
    let e = event c.args.txn c.args.op in
    let none : (cycle : List ℕ) → IsCycle (blockers_now (in_the_way (p v.protocol) v.state) (e ∷ v.waiting)) c.args.txn cycle → ⊥ =
    subst (λ v. (cycle : List ℕ) → IsCycle (blockers_now (in_the_way (p v.protocol) v.state) (e ∷ v.waiting)) c.args.txn cycle → ⊥) c.self.view_is
    (subst (λ es. (cycle : List ℕ) → IsCycle (blockers_now (in_the_way (p m.protocol) m.state) (e ∷ es)) c.args.txn cycle → ⊥) c.deref.ensures.value
    (subst (λ o. IfNone o ((cycle : List ℕ) → IsCycle (blockers_now (in_the_way (p m.protocol) m.state) (e ∷ c.deref.result.now)) c.args.txn cycle → ⊥)) c.in-None.is c.in-Ok.ensures.none)) in
    on_ok c.match-note.result _ (λ cycle is. none cycle (cycle_back (p v.protocol) v.state (e ∷ v.waiting) c.args.txn cycle is))
