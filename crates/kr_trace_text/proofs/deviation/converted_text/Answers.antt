use Rattle.std.proofs.Common.{arith}
use Rattle.std.proofs.lemmas.Grind.{common_steps}
use Rattle.kr_trace_text.proofs.deviation.converted_text.Goals as goal

pub returns-then-conflict : goal.returns-then-conflict
returns-then-conflict g c = grind (arith, common_steps)

pub returns-else-conflict : goal.returns-else-conflict
returns-else-conflict g c = grind (arith, common_steps)
