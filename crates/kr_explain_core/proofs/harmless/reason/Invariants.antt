-- the cases so far are never held
use Rattle.kr_explain_core.specs.Harmless.{IsNeverHeldBelow}
use Rattle.kr_explain_core.proofs.harmless.reason.Given as goal

abbrev pub invariant-loop-case : goal.invariant-loop-case
invariant-loop-case l = IsNeverHeldBelow l.survey l.cases l.case-index
