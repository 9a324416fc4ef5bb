use Rattle.std.proofs.Common.{All, ◌≤◌, IfOk, subst}
use Rattle.kr_model.proofs.Keep.{entries_within}
use Rattle.kr_plan.proofs.Copies.{all_of_items}
use Rattle.kr_machine.proofs.stepper.Stepper.locks.Goals as goal

pub returns-clause-modes : goal.returns-clause-modes
returns-clause-modes g c =
    let inv = c.self.invariant in
    let locks = g.L.Holdings.locks c.self.inside.locks in
    let count = (g.P.Protocol.table c.self.inside.protocol).count in
    subst (λ v. IfOk c.copy.result (λ list. All (λ l. l.1 ≤ (g.P.Protocol.table v.protocol).count) list.items)) c.self.view_is
    (all_of_items (λ list. list.items) (λ l. l.1 ≤ count) c.copy.result locks (entries_within count locks inv.in_order inv.within) c.copy.ensures)
