use Rattle.std.proofs.Common.{arith}
use Rattle.std.proofs.lemmas.Grind.{common_steps}
use Rattle.kr_machine.proofs.reserve.give_up.Goals as goal

pub returns-clause-pins : goal.returns-clause-pins
returns-clause-pins g c = grind (arith, common_steps)
