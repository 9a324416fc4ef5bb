use Rattle.kr_relax_core.specs.Twins.{DiffersSpot}
use Rattle.kr_relax_core.proofs.differs.differs.Given as goal

abbrev pub invariant-loop-at : goal.invariant-loop-at
invariant-loop-at g l = DiffersSpot (g.P.IndexProtocol.index l.base) (g.Q.IndexProtocol.index l.other) l.twins l.spots l.blocked l.at → ⊥
