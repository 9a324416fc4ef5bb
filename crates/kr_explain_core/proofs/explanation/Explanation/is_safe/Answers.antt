use Rattle.std.proofs.Common.{arith}
use Rattle.std.proofs.lemmas.Grind.{common_steps}
use Rattle.kr_explain_core.proofs.explanation.Explanation.is_safe.Goals as goal

pub returns-in-Rejected : goal.returns-in-Rejected
returns-in-Rejected c = grind (arith, common_steps)
