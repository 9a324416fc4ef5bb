use Rattle.std.proofs.Common.{arith}
use Rattle.std.proofs.lemmas.Grind.{common_steps}
use Rattle.kr_script.proofs.reading.pair_of.Goals as goal

pub returns-in_ok-number_at-2 : goal.returns-in_ok-number_at-2
returns-in_ok-number_at-2 c = grind (arith, common_steps)
