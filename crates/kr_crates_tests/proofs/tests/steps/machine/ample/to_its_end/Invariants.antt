use Rattle.std.proofs.Common.{◌≡◌, None}
use Rattle.kr_crates_tests.proofs.tests.steps.machine.ample.to_its_end.Given as goal

-- No step is pending.
abbrev pub invariant-loop-step : goal.invariant-loop-step
invariant-loop-step g l = l.machine.pending ≡ None
