use Rattle.std.proofs.Common.{arith}
use Rattle.std.proofs.lemmas.Grind.{common_steps}
use Rattle.kr_table.proofs.making.asked.Goals as goal

pub loop-clause-preserved : goal.loop-clause-preserved
loop-clause-preserved c = grind (arith, common_steps)
