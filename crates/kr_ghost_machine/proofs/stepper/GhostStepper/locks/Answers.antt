use Rattle.std.proofs.Common.{All, IfOk, subst, ◌≤◌}
use Rattle.kr_model.specs.Locks.{Lock}
use Rattle.kr_model.specs.Protocol.{Protocol}
use Rattle.kr_model.proofs.Keep.{entries_within}
use Rattle.kr_plan.proofs.Copies.{all_of_items}
use Rattle.kr_ghost_machine.proofs.stepper.GhostStepper.locks.Goals as goal
use Rattle.std.proofs.Common.{sym}

pub returns-clause-modes : goal.returns-clause-modes
returns-clause-modes g c =
    let inv = c.self.invariant in
    let held = inv.locks in
    let locks = g.L.Holdings.locks c.self.inside.locks in
    let count = (g.P.Protocol.table c.self.inside.protocol).count in
    subst (λ v. IfOk c.copy.result (λ list. All (λ l. l.1 ≤ (g.P.GhostProtocol.ghosts v.protocol).table.count) list.items)) c.self.view_is
    (subst (λ (q : Protocol). IfOk c.copy.result (λ list. All (λ (l : Lock). l.1 ≤ q.count) list.items)) (sym (g.met.P.GhostProtocol.tables c.self.inside.protocol))
    (all_of_items (λ list. list.items) (λ l. l.1 ≤ count) c.copy.result locks (entries_within count locks held.rise held.within) c.copy.ensures))
