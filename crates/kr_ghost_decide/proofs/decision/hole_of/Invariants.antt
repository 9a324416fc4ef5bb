use Rattle.kr_ghost_decide.specs.Holds.{fact}
use Rattle.kr_ghost_decide.specs.Holes.{HasNoHole}
use Rattle.kr_ghost_decide.proofs.decision.hole_of.Given as goal

abbrev pub invariant-loop-number : goal.invariant-loop-number
invariant-loop-number g l = HasNoHole (g.P.GhostProtocol.ghosts l.protocol) l.number (fact l.pair)
