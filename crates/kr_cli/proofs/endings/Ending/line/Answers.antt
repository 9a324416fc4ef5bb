use Rattle.std.proofs.Common.{arith}
use Rattle.std.proofs.lemmas.Grind.{common_steps}
use Rattle.kr_cli.proofs.endings.Ending.line.Goals as goal

pub returns-in-Place : goal.returns-in-Place
returns-in-Place c = grind (arith, common_steps)
