use Rattle.std.proofs.Common.{◌≡◌, ◌==◌, ℕ, List, true, subst}
use Rattle.std.specs.Prelude.{IfOk}
use Rattle.std.specs.List.{Contains, list_any}
use Rattle.kr_deadlock.specs.declared.Waiting.{Waiting}
use Rattle.kr_deadlock.specs.Waits.{IsCycle}
use Rattle.kr_records.specs.Waits.{in_the_way, blockers_now, AreDeadlocked}
use Rattle.kr_engine.proofs.kernel.Core.deadlocked.Goals as goal

-- each set of which each is blocked by another is among the entries
abbrev AreThere : (ℕ → List ℕ) → List Waiting → Type 0
AreThere now ws = (txns : List ℕ) → AreDeadlocked now txns → (t : ℕ) → Contains txns t → list_any (λ (w : Waiting). w.txn == t) ws ≡ true

-- each member of a cycle is
abbrev CyclesAreThere : (ℕ → List ℕ) → List Waiting → Type 0
CyclesAreThere now ws = (txn : ℕ) (cycle : List ℕ) → IsCycle now txn cycle → (t : ℕ) → Contains cycle t → list_any (λ (w : Waiting). w.txn == t) ws ≡ true

pub returns-clause-all : goal.returns-clause-all
returns-clause-all g c =
    let p = g.P.Protocol.table in
    let m = c.self.inside.machine in
    subst (λ v. IfOk c.deadlocked.result (λ waits. AreThere (blockers_now (in_the_way (p v.protocol) v.state) v.waiting) waits.items)) c.self.view_is
    (subst (λ es. IfOk c.deadlocked.result (λ waits. AreThere (blockers_now (in_the_way (p m.protocol) m.state) es) waits.items)) c.deref.ensures.value c.deadlocked.ensures.all)

pub returns-clause-cycles : goal.returns-clause-cycles
returns-clause-cycles g c =
    let p = g.P.Protocol.table in
    let m = c.self.inside.machine in
    subst (λ v. IfOk c.deadlocked.result (λ waits. CyclesAreThere (blockers_now (in_the_way (p v.protocol) v.state) v.waiting) waits.items)) c.self.view_is
    (subst (λ es. IfOk c.deadlocked.result (λ waits. CyclesAreThere (blockers_now (in_the_way (p m.protocol) m.state) es) waits.items)) c.deref.ensures.value c.deadlocked.ensures.cycles)
