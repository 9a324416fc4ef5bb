use Rattle.std.proofs.Common.{arith}
use Rattle.std.proofs.lemmas.Grind.{common_steps}
use Rattle.kr_protocol.proofs.asking.converted.Goals as goal

pub returns-else-held-count : goal.returns-else-held-count
returns-else-held-count g c = grind (arith, common_steps)
