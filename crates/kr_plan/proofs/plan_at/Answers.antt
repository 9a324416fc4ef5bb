use Rattle.std.proofs.Common.{sym, subst}
use Rattle.kr_model.specs.Plan.{access}
use Rattle.kr_plan.specs.Modes.{ArePlanModes}
use Rattle.kr_plan.proofs.PlanModes.{modes_by}
use Rattle.kr_plan.proofs.plan_at.Goals as goal

pub returns-clause-modes : goal.returns-clause-modes
returns-clause-modes g c =
    let p = g.P.Protocol.table c.args.protocol.now in
    let h = g.L.Holdings.locks c.args.locks.now in
    subst (ArePlanModes p.count) (sym c.requested.ensures) (modes_by p h c.args.txn (access c.args.row c.args.current c.args.next) (g.met.P.Protocol.lawful c.args.protocol.now) c.requires)
