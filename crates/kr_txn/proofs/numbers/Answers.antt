use Rattle.std.proofs.Common.{arith}
use Rattle.std.proofs.lemmas.Grind.{common_steps}
use Rattle.kr_txn.proofs.numbers.Goals as goal

pub loop-standing-preserved : goal.loop-standing-preserved
loop-standing-preserved c = grind (arith, common_steps)

pub loop-standing-init : goal.loop-standing-init
loop-standing-init c = grind (arith, common_steps)

pub returns : goal.returns
returns c = grind (arith, common_steps)
