use Rattle.std.proofs.Common.{arith}
use Rattle.std.proofs.lemmas.Grind.{common_steps}
use Rattle.kr_explain_runs.proofs.access.taken_at.Goals as goal

pub returns-in-Delete : goal.returns-in-Delete
returns-in-Delete c = grind (arith, common_steps)
