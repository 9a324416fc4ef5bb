use Rattle.std.proofs.Common.{ℕ, ◌<◌, ◌≤◌}
use Rattle.kr_crates_tests.proofs.tests.steps.index.many.empties.Given as goal

-- the keys from here on have pins
abbrev pub invariant-loop-key : goal.invariant-loop-key
invariant-loop-key g l = (q : ℕ) → l.key ≤ q → q < 1000 → 0 < g.O.Ordered.pins l.index q
