use Rattle.std.proofs.Common.{arith}
use Rattle.std.proofs.lemmas.Grind.{common_steps}
use Rattle.kr_decide.proofs.opening.lets_in.Goals as goal

pub returns-then-may_ask : goal.returns-then-may_ask
returns-then-may_ask g c = grind (arith, common_steps)
