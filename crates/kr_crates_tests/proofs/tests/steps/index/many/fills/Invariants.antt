use Rattle.std.proofs.Common.{◌≡◌, ℕ, ◌<◌, ◌≤◌}
use Rattle.kr_crates_tests.proofs.tests.steps.index.many.fills.Given as goal

-- the keys so far have pins, and the others have none yet
abbrev pub invariant-loop-key : goal.invariant-loop-key
invariant-loop-key g l = record { there : (q : ℕ) → q < l.key → 0 < g.O.Ordered.pins l.index q; none : (q : ℕ) → l.key ≤ q → g.O.Ordered.pins l.index q ≡ 0 }
