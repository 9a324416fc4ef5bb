use Rattle.std.proofs.Common.{arith}
use Rattle.std.proofs.lemmas.Grind.{common_steps}
use Rattle.kr_threads.proofs.history.ran_of.Goals as goal

pub returns-clause-programs : goal.returns-clause-programs
returns-clause-programs c = grind (arith, common_steps)
