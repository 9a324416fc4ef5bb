use Rattle.std.proofs.Common.{arith}
use Rattle.std.proofs.lemmas.Grind.{common_steps}
use Rattle.kr_script.proofs.writing.separator.Goals as goal

pub returns-then-later : goal.returns-then-later
returns-then-later c = grind (arith, common_steps)

pub returns-else-later : goal.returns-else-later
returns-else-later c = grind (arith, common_steps)
