use Rattle.std.proofs.Common.{arith}
use Rattle.std.proofs.lemmas.Grind.{common_steps}
use Rattle.kr_explain_runs.proofs.judging.is_wrong.Goals as goal

pub returns-clause-granted : goal.returns-clause-granted
returns-clause-granted c = grind (arith, common_steps)

pub returns-clause-not_serial : goal.returns-clause-not_serial
returns-clause-not_serial c = grind (arith, common_steps)
