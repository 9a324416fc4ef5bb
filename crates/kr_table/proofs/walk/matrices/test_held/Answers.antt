use Rattle.std.proofs.Common.{arith}
use Rattle.std.proofs.lemmas.Grind.{common_steps}
use Rattle.kr_table.proofs.walk.matrices.test_held.Goals as goal

pub loop-held-preserved : goal.loop-held-preserved
loop-held-preserved c = grind (arith, common_steps)

pub loop-held-init : goal.loop-held-init
loop-held-init c = grind (arith, common_steps)

pub returns-in_default : goal.returns-in_default
returns-in_default c = grind (arith, common_steps)

pub returns-then-not-is_mode : goal.returns-then-not-is_mode
returns-then-not-is_mode c = grind (arith, common_steps)

pub returns-in_err-test_pairs : goal.returns-in_err-test_pairs
returns-in_err-test_pairs c = grind (arith, common_steps)

pub returns : goal.returns
returns c = grind (arith, common_steps)
