use Rattle.std.proofs.Common.{◌≡◌, None}
use Rattle.kr_crates_tests.proofs.tests.steps.machine.ample.attempt_each.Given as goal

-- No step is pending.
abbrev pub invariant-loop-place : goal.invariant-loop-place
invariant-loop-place g l = l.machine.pending ≡ None
