use Rattle.std.proofs.Common.{arith}
use Rattle.std.proofs.lemmas.Grind.{common_steps}
use Rattle.kr_explain_runs.proofs.access.is_request_of.Goals as goal

pub returns-then-own_next-next : goal.returns-then-own_next-next
returns-then-own_next-next g c = grind (arith, common_steps)
