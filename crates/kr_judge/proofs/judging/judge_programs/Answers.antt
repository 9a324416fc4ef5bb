use Rattle.std.proofs.Common.{arith}
use Rattle.std.proofs.lemmas.Grind.{common_steps}
use Rattle.kr_judge.proofs.judging.judge_programs.Goals as goal

pub returns-then-not-is_serial : goal.returns-then-not-is_serial
returns-then-not-is_serial c = grind (arith, common_steps)

pub loop-program-preserved : goal.loop-program-preserved
loop-program-preserved c = grind (arith, common_steps)
