use Rattle.std.proofs.Common.{◌<◌, arith}
use Rattle.kr_explain_core.proofs.Trying.{staged_run}
use Rattle.kr_explain_core.proofs.told_run.or_staged.Goals as goal

pub returns-in-Some-clause-told : goal.returns-in-Some-clause-told
returns-in-Some-clause-told g c =
    let some : 0 < c.args.told.tried = omega arith in
    staged_run (g.P.Protocol.table c.args.protocol.now) c.args.cases.now c.args.told c.in_ok-run.field-0 c.in-Some.run' c.requires.told some c.in-Some.is c.in_ok-run.ensures
