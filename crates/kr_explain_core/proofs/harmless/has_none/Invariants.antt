-- the modes so far are clear
use Rattle.kr_explain_core.specs.Harmless.{IsClearBelow}
use Rattle.kr_explain_core.proofs.harmless.has_none.Given as goal

abbrev pub invariant-loop-mode : goal.invariant-loop-mode
invariant-loop-mode l = IsClearBelow l.survey l.failed l.cases l.cover l.mode
