use Rattle.std.proofs.Common.{ℕ, ◌<◌}
use Rattle.kr_decide.specs.Rising.{GoesUp}
use Rattle.kr_decide.proofs.ordered.goes_up_from.Given as goal

abbrev pub invariant-loop-requested : goal.invariant-loop-requested
invariant-loop-requested g l = (q : ℕ) → q < l.requested → GoesUp (g.P.Protocol.table l.protocol) l.held q
