-- nothing was found so far
use Rattle.kr_explain_core.proofs.told_run.staged_by.Given as goal

abbrev pub invariant-loop-at : goal.invariant-loop-at
invariant-loop-at g l = Unit {0}
