use Rattle.std.proofs.Common.{◌∙◌, ap}
use Rattle.std.proofs.lemmas.Result.{IfOk-weaker}
use Rattle.kr_model.specs.Difference.{first_difference}
use Rattle.kr_judge.specs.Verdicts.{verdict_of}
use Rattle.kr_judge.proofs.Wholes.{serial_exactly}
use Rattle.kr_judge.proofs.judging.judge.Goals as goal

-- The slices that are judged are the run's own lists.
pub returns-clause-serial : goal.returns-clause-serial
returns-clause-serial c =
    let ran = c.args.ran.now in
    let same = ap (λ m. verdict_of (first_difference m c.as_slice-2.result.now)) c.as_slice.ensures.pairs
    ∙ ap (λ ps. verdict_of (first_difference ran.opening ps)) c.as_slice-2.ensures in
    IfOk-weaker c.judge_programs.result _ _ (λ v told. serial_exactly v ran.opening ran.programs (told ∙ same)) c.judge_programs.ensures
