use Rattle.std.proofs.Common.{arith}
use Rattle.std.proofs.lemmas.Grind.{common_steps}
use Rattle.kr_explain_core.proofs.text.tries_of.Goals as goal

pub returns-clause-runs : goal.returns-clause-runs
returns-clause-runs c = grind (arith, common_steps)
