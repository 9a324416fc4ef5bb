use Rattle.std.proofs.Common.{ℕ, ◌<◌}
use Rattle.kr_decide.specs.Rising.{RisesFrom}
use Rattle.kr_decide.proofs.ordered.rises.Given as goal

abbrev pub invariant-loop-lesser : goal.invariant-loop-lesser
invariant-loop-lesser g l = (m : ℕ) → m < l.lesser → RisesFrom (g.P.Protocol.table l.protocol) l.row l.side m
