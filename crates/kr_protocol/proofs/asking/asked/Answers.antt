use Rattle.std.proofs.Common.{arith}
use Rattle.std.proofs.lemmas.Grind.{common_steps}
use Rattle.kr_protocol.proofs.asking.asked.Goals as goal

pub returns-else-own_next-count : goal.returns-else-own_next-count
returns-else-own_next-count g c = grind (arith, common_steps)
