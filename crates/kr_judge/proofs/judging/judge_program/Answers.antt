use Rattle.std.proofs.Common.{arith, sym, ◌∙◌}
use Rattle.std.proofs.lemmas.Grind.{common_steps}
use Rattle.kr_judge.proofs.Changes.{own_shown}
use Rattle.kr_judge.proofs.judging.judge_program.Goals as goal

pub loop-i-preserved : goal.loop-i-preserved
loop-i-preserved c = grind (arith, common_steps)

pub returns-in-Some-clause-verdict : goal.returns-in-Some-clause-verdict
returns-in-Some-clause-verdict c =
    let shown = own_shown _ _ _ (sym c.in-Some.is ∙ c.in_ok-serial.ensures.own) in
    grind (arith, common_steps, shown.0, shown.1)
