use Rattle.std.proofs.Common.{arith}
use Rattle.std.proofs.lemmas.Grind.{common_steps}
use Rattle.kr_script.proofs.steps.op_of.Goals as goal

pub returns-in-go : goal.returns-in-go
returns-in-go c = grind (arith, common_steps)
