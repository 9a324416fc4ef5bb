use Rattle.std.proofs.Common.{arith}
use Rattle.std.proofs.lemmas.Grind.{common_steps}
use Rattle.kr_cases.proofs.holes.must_conflict.Goals as goal

pub returns-in-ReadKey : goal.returns-in-ReadKey
returns-in-ReadKey g c = grind (arith, common_steps)
