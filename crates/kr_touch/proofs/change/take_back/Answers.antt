use Rattle.std.proofs.Common.{arith}
use Rattle.std.proofs.lemmas.Grind.{common_steps}
use Rattle.kr_touch.proofs.change.take_back.Goals as goal

pub put-requires : goal.put-requires
put-requires g c = grind (arith, common_steps)

pub take-requires : goal.take-requires
take-requires g c = grind (arith, common_steps)

pub returns-clause-map : goal.returns-clause-map
returns-clause-map g c = grind (arith, common_steps)

pub returns-clause-pins : goal.returns-clause-pins
returns-clause-pins g c = grind (arith, common_steps)

pub returns-clause-standing : goal.returns-clause-standing
returns-clause-standing g c = grind (arith, common_steps)
