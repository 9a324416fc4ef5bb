use Rattle.std.proofs.Common.{arith}
use Rattle.std.proofs.lemmas.Grind.{common_steps}
use Rattle.kr_txn.proofs.unfinished.push_program.Goals as goal

pub returns-clause-items : goal.returns-clause-items
returns-clause-items c = grind (arith, common_steps)

pub returns-clause-len : goal.returns-clause-len
returns-clause-len c = grind (arith, common_steps)
