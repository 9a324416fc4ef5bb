use Rattle.std.proofs.Common.{arith}
use Rattle.std.proofs.lemmas.Grind.{common_steps}
use Rattle.kr_script.proofs.script.Script.steps.Goals as goal

pub returns-clause-events : goal.returns-clause-events
returns-clause-events c = grind (arith, common_steps)
