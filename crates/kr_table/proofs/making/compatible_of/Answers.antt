use Rattle.std.proofs.Common.{arith}
use Rattle.std.proofs.lemmas.Grind.{common_steps}
use Rattle.kr_table.proofs.making.compatible_of.Goals as goal

pub loop-requested-preserved : goal.loop-requested-preserved
loop-requested-preserved c = grind (arith, common_steps)
