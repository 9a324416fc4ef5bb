use Rattle.std.proofs.Common.{ℕ, ◌<◌}
use Rattle.kr_crates_tests.proofs.tests.steps.index.many.crosses.Given as goal

-- the keys have pins
abbrev pub invariant-loop-key : goal.invariant-loop-key
invariant-loop-key g l = (q : ℕ) → q < 1000 → 0 < g.O.Ordered.pins l.index q
