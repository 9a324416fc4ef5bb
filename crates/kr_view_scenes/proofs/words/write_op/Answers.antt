use Rattle.std.proofs.Common.{arith}
use Rattle.std.proofs.lemmas.Grind.{common_steps}
use Rattle.kr_view_scenes.proofs.words.write_op.Goals as goal

pub returns-in-Delete : goal.returns-in-Delete
returns-in-Delete c = grind (arith, common_steps)
