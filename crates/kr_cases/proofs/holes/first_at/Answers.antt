use Rattle.std.proofs.Common.{arith}
use Rattle.std.proofs.lemmas.Grind.{common_steps}
use Rattle.kr_cases.proofs.holes.first_at.Goals as goal

pub returns-in_default-Current : goal.returns-in_default-Current
returns-in_default-Current g c = grind (arith, common_steps)
