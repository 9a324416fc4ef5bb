use Rattle.std.proofs.Common.{arith}
use Rattle.std.proofs.lemmas.Grind.{common_steps}
use Rattle.kr_explain_causes.proofs.reasons.own_next.Goals as goal

pub returns-in-Own-Delete : goal.returns-in-Own-Delete
returns-in-Own-Delete c = grind (arith, common_steps)
