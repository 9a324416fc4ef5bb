use Rattle.kr_relax_core.specs.Twins.{left, IsFoundWell}
use Rattle.kr_relax_core.proofs.twins.twins_of.Given as goal

abbrev pub invariant-loop-found : goal.invariant-loop-found
invariant-loop-found g l = IsFoundWell (g.P.IndexProtocol.index l.base) (g.Q.IndexProtocol.index l.other) l.found

abbrev pub decreases-loop-found : goal.decreases-loop-found
decreases-loop-found g l = left l.found.unseen.items
