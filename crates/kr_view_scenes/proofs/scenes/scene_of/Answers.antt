use Rattle.std.proofs.Common.{arith}
use Rattle.std.proofs.lemmas.Grind.{common_steps}
use Rattle.kr_view_scenes.proofs.scenes.scene_of.Goals as goal

pub returns-clause-scene : goal.returns-clause-scene
returns-clause-scene g c = grind (arith, common_steps)
