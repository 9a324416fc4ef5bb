use Rattle.std.proofs.Common.{sym, ◌∙◌}
use Rattle.kr_explain_core.proofs.Clear.{one_case_more, case_read}
use Rattle.kr_explain_core.proofs.harmless.reason.Goals as goal

pub loop-case-preserved : goal.loop-case-preserved
loop-case-preserved c = one_case_more c.args.survey.now c.args.cases.now c.loop-case.case-index c.loop-case.invariant (case_read c.args.survey.now c.args.cases.now c.loop-case.case-index _ c.loop-case-test.true (sym c.is_held.ensures ∙ c.if-is_held.false))
