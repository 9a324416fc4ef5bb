use Rattle.std.proofs.Common.{arith}
use Rattle.std.proofs.lemmas.Grind.{common_steps}
use Rattle.kr_explain_core.proofs.explaining.mend_of.Goals as goal

pub returns-in_ok-mend-clause-mends : goal.returns-in_ok-mend-clause-mends
returns-in_ok-mend-clause-mends g c = grind (arith, common_steps)

pub returns-in_ok-mend-clause-of_one_entry : goal.returns-in_ok-mend-clause-of_one_entry
returns-in_ok-mend-clause-of_one_entry g c = grind (arith, common_steps)
