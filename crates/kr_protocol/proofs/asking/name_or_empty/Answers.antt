use Rattle.std.proofs.Common.{arith}
use Rattle.std.proofs.lemmas.Grind.{common_steps}
use Rattle.kr_protocol.proofs.asking.name_or_empty.Goals as goal

pub returns-else-mode-count : goal.returns-else-mode-count
returns-else-mode-count g c = grind (arith, common_steps)
