use Rattle.std.proofs.Common.{arith}
use Rattle.std.proofs.lemmas.Grind.{common_steps}
use Rattle.kr_explain_runs.proofs.marks.name_let_in.Goals as goal

pub returns-then-is_kept_out : goal.returns-then-is_kept_out
returns-then-is_kept_out g c = grind (arith, common_steps)
