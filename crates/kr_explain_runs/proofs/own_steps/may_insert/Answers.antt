use Rattle.std.proofs.Common.{arith}
use Rattle.std.proofs.lemmas.Grind.{common_steps}
use Rattle.kr_explain_runs.proofs.own_steps.may_insert.Goals as goal

pub returns-in-Insert : goal.returns-in-Insert
returns-in-Insert c = grind (arith, common_steps)
