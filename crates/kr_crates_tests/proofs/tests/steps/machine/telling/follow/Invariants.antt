use Rattle.std.proofs.Common.{◌≡◌, None}
use Rattle.kr_crates_tests.proofs.tests.steps.machine.telling.follow.Given as goal

-- No step is pending.
abbrev pub invariant-loop-txn : goal.invariant-loop-txn
invariant-loop-txn g l = l.machine.pending ≡ None
