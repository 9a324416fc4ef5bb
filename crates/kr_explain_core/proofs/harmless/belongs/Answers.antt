use Rattle.std.proofs.Common.{arith}
use Rattle.std.proofs.lemmas.Grind.{common_steps}
use Rattle.kr_explain_core.proofs.harmless.belongs.Goals as goal

pub returns-else-not-has_case : goal.returns-else-not-has_case
returns-else-not-has_case c = grind (arith, common_steps)
