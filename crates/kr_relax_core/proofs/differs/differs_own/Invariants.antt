use Rattle.kr_relax_core.specs.Twins.{DiffersOwn}
use Rattle.kr_relax_core.proofs.differs.differs_own.Given as goal

abbrev pub invariant-loop-at : goal.invariant-loop-at
invariant-loop-at g l = DiffersOwn (g.P.IndexProtocol.index l.base) (g.Q.IndexProtocol.index l.other) l.twins l.spot l.blocked l.at → ⊥
