use Rattle.std.proofs.Common.{arith}
use Rattle.std.proofs.lemmas.Grind.{common_steps}
use Rattle.kr_engine.proofs.seat.Seat.watch.Goals as goal

pub returns-clause-all : goal.returns-clause-all
returns-clause-all g c = grind (arith, common_steps)
