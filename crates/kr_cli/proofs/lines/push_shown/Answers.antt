use Rattle.std.proofs.Common.{arith}
use Rattle.std.proofs.lemmas.Grind.{common_steps}
use Rattle.kr_cli.proofs.lines.push_shown.Goals as goal

pub returns-else-is_control : goal.returns-else-is_control
returns-else-is_control c = grind (arith, common_steps)
