-- the modes so far
use Rattle.kr_table_copy.specs.Same.{SameHeirs}
use Rattle.kr_table_copy.proofs.same_ghosts.has_same_heirs.Given as goal

abbrev pub invariant-loop-mode : goal.invariant-loop-mode
invariant-loop-mode g l = SameHeirs (g.P.GhostProtocol.ghosts l.one) (g.Q.GhostProtocol.ghosts l.other) l.mode
