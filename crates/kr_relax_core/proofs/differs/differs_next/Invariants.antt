use Rattle.kr_relax_core.specs.Twins.{DiffersNext}
use Rattle.kr_relax_core.proofs.differs.differs_next.Given as goal

abbrev pub invariant-loop-at : goal.invariant-loop-at
invariant-loop-at g l = DiffersNext (g.P.IndexProtocol.index l.base) (g.Q.IndexProtocol.index l.other) l.twins l.spot l.own l.blocked l.at → ⊥
