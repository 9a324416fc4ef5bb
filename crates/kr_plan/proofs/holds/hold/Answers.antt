use Rattle.std.proofs.Common.{arith}
use Rattle.std.proofs.lemmas.Grind.{common_steps}
use Rattle.kr_plan.proofs.holds.hold.Goals as goal

pub returns-in-Instant-clause-ok : goal.returns-in-Instant-clause-ok
returns-in-Instant-clause-ok g c = grind (arith, common_steps)

pub returns-in-Instant-clause-was : goal.returns-in-Instant-clause-was
returns-in-Instant-clause-was g c = grind (arith, common_steps)
