use Rattle.std.proofs.Common.{arith}
use Rattle.std.proofs.lemmas.Grind.{common_steps}
use Rattle.kr_explain_runs.proofs.access.asks_for.Goals as goal

pub returns-in-Some-default-Commit : goal.returns-in-Some-default-Commit
returns-in-Some-default-Commit g c = grind (arith, common_steps)
