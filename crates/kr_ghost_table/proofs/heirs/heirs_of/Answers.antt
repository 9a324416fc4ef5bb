use Rattle.std.proofs.Common.{arith}
use Rattle.std.proofs.lemmas.Grind.{common_steps}
use Rattle.kr_ghost_table.proofs.heirs.heirs_of.Goals as goal

pub loop-mode-preserved : goal.loop-mode-preserved
loop-mode-preserved c = grind (arith, common_steps)
