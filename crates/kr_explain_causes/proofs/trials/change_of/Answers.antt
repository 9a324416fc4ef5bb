use Rattle.std.proofs.Common.{arith}
use Rattle.std.proofs.lemmas.Grind.{common_steps}
use Rattle.kr_explain_causes.proofs.trials.change_of.Goals as goal

pub returns-in-Pair : goal.returns-in-Pair
returns-in-Pair g c = grind (arith, common_steps)
