use Rattle.std.proofs.Common.{arith}
use Rattle.std.proofs.lemmas.Grind.{common_steps}
use Rattle.kr_explain_runs.proofs.closure.Closure.find_within.Goals as goal

pub returns-clause-few : goal.returns-clause-few
returns-clause-few g c = grind (arith, common_steps)
