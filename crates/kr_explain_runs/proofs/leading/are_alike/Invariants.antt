use Rattle.std.proofs.Common.{ℕ, ◌<◌, get_or}
use Rattle.kr_explain_runs.specs.Reached.{AreAlikeAt, points}
use Rattle.kr_explain_runs.proofs.leading.are_alike.Given as goal

-- The two are alike at each point so far.
abbrev pub invariant-loop-point : goal.invariant-loop-point
invariant-loop-point l = (k : ℕ) (d : ℕ) → k < l.point-index → AreAlikeAt l.pairs l.other (get_or points k d)
