use Rattle.std.proofs.Common.{arith}
use Rattle.std.proofs.lemmas.Grind.{common_steps}
use Rattle.kr_cases.proofs.finder.all_rules.Goals as goal

pub returns-then-updates : goal.returns-then-updates
returns-then-updates g c = grind (arith, common_steps)
