use Rattle.std.proofs.Common.{arith}
use Rattle.std.proofs.lemmas.Grind.{common_steps}
use Rattle.kr_decide.proofs.moves.keeps_out.Goals as goal

pub returns-then-keeps_out_by_key : goal.returns-then-keeps_out_by_key
returns-then-keeps_out_by_key c = grind (arith, common_steps)

pub returns-else-keeps_out_by_key : goal.returns-else-keeps_out_by_key
returns-else-keeps_out_by_key c = grind (arith, common_steps)
