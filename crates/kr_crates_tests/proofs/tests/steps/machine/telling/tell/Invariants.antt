use Rattle.std.proofs.Common.{◌≡◌, None}
use Rattle.kr_crates_tests.proofs.tests.steps.machine.telling.tell.Given as goal

-- No step is pending.
abbrev pub invariant-loop-line : goal.invariant-loop-line
invariant-loop-line g l = l.machine.pending ≡ None
