use Rattle.kr_ghost_decide.specs.Holes.{NoHoles}
use Rattle.kr_ghost_decide.proofs.decision.first_hole.Given as goal

abbrev pub invariant-loop-place : goal.invariant-loop-place
invariant-loop-place g l = NoHoles (g.P.GhostProtocol.ghosts l.protocol) l.place l.found.marks.items
