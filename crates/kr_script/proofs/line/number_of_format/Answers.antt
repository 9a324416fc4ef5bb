use Rattle.std.proofs.Common.{arith}
use Rattle.std.proofs.lemmas.Grind.{common_steps}
use Rattle.kr_script.proofs.line.number_of_format.Goals as goal

pub returns-then-two : goal.returns-then-two
returns-then-two c = grind (arith, common_steps)
