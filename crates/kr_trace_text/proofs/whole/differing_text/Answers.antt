use Rattle.std.proofs.Common.{arith}
use Rattle.std.proofs.lemmas.Grind.{common_steps}
use Rattle.kr_trace_text.specs.Whole.{differing_words}
use Rattle.kr_trace_text.proofs.whole.differing_text.Goals as goal

pub returns-then-step-deviation : goal.returns-then-step-deviation
unfolding differing_words
returns-then-step-deviation g c = grind (arith, common_steps)

pub returns-else-step-deviation : goal.returns-else-step-deviation
unfolding differing_words
returns-else-step-deviation g c = grind (arith, common_steps)
