use Rattle.std.proofs.Common.{arith}
use Rattle.std.proofs.lemmas.Grind.{common_steps}
use Rattle.kr_txn.proofs.numbered.position.Goals as goal

pub returns-then-number-txn-clause-some : goal.returns-then-number-txn-clause-some
returns-then-number-txn-clause-some g c = grind (arith, common_steps)
