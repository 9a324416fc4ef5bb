use Rattle.std.proofs.Common.{arith}
use Rattle.std.proofs.lemmas.Grind.{common_steps}
use Rattle.kr_view_scenes.proofs.words.kind_of.Goals as goal

pub returns-in-Blocked : goal.returns-in-Blocked
returns-in-Blocked c = grind (arith, common_steps)
