use Rattle.kr_relax_core.proofs.Counting.{AreCounted}
use Rattle.kr_relax_core.proofs.outcome.width.Given as goal

-- the spots so far are counted
abbrev pub invariant-loop-at : goal.invariant-loop-at
invariant-loop-at g l = AreCounted (g.P.IndexProtocol.index l.base) (g.Q.IndexProtocol.index l.other) l.spots l.at l.width
