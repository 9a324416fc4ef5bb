use Rattle.std.proofs.Common.{arith}
use Rattle.std.proofs.lemmas.Grind.{common_steps}
use Rattle.kr_touch.proofs.change.undo.Goals as goal

pub loop-key-preserved : goal.loop-key-preserved
loop-key-preserved g c = grind (arith, common_steps)

pub loop-key-init : goal.loop-key-init
loop-key-init g c = grind (arith, common_steps)

pub returns-clause-map : goal.returns-clause-map
returns-clause-map g c = grind (arith, common_steps)

pub returns-clause-pins : goal.returns-clause-pins
returns-clause-pins g c = grind (arith, common_steps)
