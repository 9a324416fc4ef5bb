use Rattle.std.proofs.Common.{arith}
use Rattle.std.proofs.lemmas.Grind.{common_steps}
use Rattle.kr_explain_runs.proofs.marks.is_lock_of.Goals as goal

pub returns-in-Mode : goal.returns-in-Mode
returns-in-Mode g c = grind (arith, common_steps)
