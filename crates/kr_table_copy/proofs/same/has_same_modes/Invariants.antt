-- the modes so far
use Rattle.std.proofs.Common.{ℕ, ◌+◌, ◌<◌}
use Rattle.kr_table_copy.specs.Same.{SamePairs, SameConversions}
use Rattle.kr_table_copy.proofs.same.has_same_modes.Given as goal

abbrev pub invariant-loop-mode : goal.invariant-loop-mode
invariant-loop-mode g l = ((r : ℕ) → r < l.mode → SamePairs (g.P.Protocol.table l.one) (g.Q.Protocol.table l.other) r ((g.P.Protocol.table l.one).count + 1)) × ((h : ℕ) → h < l.mode → SameConversions (g.P.Protocol.table l.one) (g.Q.Protocol.table l.other) h ((g.P.Protocol.table l.one).count + 1))
