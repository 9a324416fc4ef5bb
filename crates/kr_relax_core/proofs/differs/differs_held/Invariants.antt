use Rattle.kr_relax_core.specs.Twins.{DiffersHeld}
use Rattle.kr_relax_core.proofs.differs.differs_held.Given as goal

abbrev pub invariant-loop-at : goal.invariant-loop-at
invariant-loop-at g l = DiffersHeld (g.P.IndexProtocol.index l.base) (g.Q.IndexProtocol.index l.other) l.twins l.spot l.own l.next l.blocked l.at → ⊥
