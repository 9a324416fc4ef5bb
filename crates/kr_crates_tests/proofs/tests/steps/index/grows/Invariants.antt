use Rattle.std.proofs.Common.{◌≡◌, ℕ, ◌≤◌}
use Rattle.kr_crates_tests.proofs.tests.steps.index.grows.Given as goal

-- no key from here on has a pin yet
abbrev pub invariant-loop-key : goal.invariant-loop-key
invariant-loop-key g l = (q : ℕ) → l.key ≤ q → g.O.Ordered.pins l.index q ≡ 0
