use Rattle.std.proofs.Common.{◌∙◌}
use Rattle.std.proofs.lemmas.Result.{IfOk-weaker}
use Rattle.kr_report.specs.ThreadsReport.{threads_text}
use Rattle.kr_report.proofs.threads_reports.report_threads.Goals as goal

pub returns : goal.returns
returns c = record {
  text = IfOk-weaker c.report_parts.result _ _ (λ text is. is ∙ (λ i. threads_text (c.as_slice.ensures.value i) (c.as_slice-2.ensures.value i) (c.as_slice-3.ensures.pairs i) (c.as_slice-4.ensures i) c.args.verdict.now)) c.report_parts.ensures.text;
}
