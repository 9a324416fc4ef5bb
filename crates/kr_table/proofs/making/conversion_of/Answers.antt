use Rattle.std.proofs.Common.{arith}
use Rattle.std.proofs.lemmas.Grind.{common_steps}
use Rattle.kr_table.proofs.making.conversion_of.Goals as goal

pub loop-held-preserved : goal.loop-held-preserved
loop-held-preserved c = grind (arith, common_steps)
