use Rattle.std.proofs.Common.{arith, rules}
use Rattle.std.proofs.lemmas.Grind.{common_steps}
use Rattle.kr_serial.proofs.runs.replayed.Goals as goal

pub returns-clause-opening : goal.returns-clause-opening
returns-clause-opening g c = grind (arith, common_steps)

pub returns-clause-replies : goal.returns-clause-replies
returns-clause-replies g c = grind (arith, common_steps)

pub returns-clause-index : goal.returns-clause-index
returns-clause-index g c = grind (arith, common_steps)

pub returns-clause-locks : goal.returns-clause-locks
returns-clause-locks g c = grind (arith, common_steps)

pub returns-clause-modes : goal.returns-clause-modes
returns-clause-modes g c = search rules

pub returns-clause-unfinished : goal.returns-clause-unfinished
returns-clause-unfinished g c = grind (arith, common_steps)
