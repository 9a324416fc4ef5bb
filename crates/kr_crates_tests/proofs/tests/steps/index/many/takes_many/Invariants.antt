use Rattle.std.proofs.Common.{ℕ, ◌<◌}
use Rattle.kr_crates_tests.proofs.tests.steps.index.many.takes_many.Given as goal

-- the keys have pins
abbrev pub invariant-loop-taken : goal.invariant-loop-taken
invariant-loop-taken g l = (q : ℕ) → q < 1000 → 0 < g.O.Ordered.pins l.index q
