use Rattle.std.proofs.Common.{◌≡◌, ◌++◌, ◌∷◌, [], List, ℕ, ap, sym, refl, ◌∙◌}
use Rattle.std.proofs.lemmas.Result.{IfOk-weaker}
use Rattle.kr_model.specs.Difference.{first_difference}
use Rattle.kr_judge.specs.declared.verdict.Verdict.{Verdict}
use Rattle.kr_judge.specs.declared.verdict.Verdict.TheVariants.{Serial}
use Rattle.kr_judge.specs.Verdicts.{verdict_of}
use Rattle.kr_judge.proofs.Wholes.{serial_exactly}
use Rattle.kr_report.specs.ThreadsReport.{threads_text}
use Rattle.kr_cli_tasks.proofs.threads.report_of.Goals as goal

pub returns : goal.returns
returns c = IfOk-weaker c.report_threads_shown.result _ _ (λ text told. λ p opening steps shows.
    let d = shows.whole in
    let v : Verdict = verdict_of (first_difference d.ran.opening d.ran.programs) in
    let is : v ≡ Serial = (serial_exactly v d.ran.opening d.ran.programs refl).1 shows.is_threaded.ran.serial in
    ap (λ (t : List ℕ). t ++ 10 ∷ []) (told ∙ (λ i. threads_text (shows.faults i) (shows.history i) (shows.index i) (shows.unfinished i) (sym is i)))) c.report_threads_shown.ensures.text
