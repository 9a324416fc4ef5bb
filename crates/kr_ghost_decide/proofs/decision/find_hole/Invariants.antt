use Rattle.std.proofs.Common.{◌-◌}
use Rattle.kr_ghost_decide.specs.Holes.{NoHoles}
use Rattle.kr_ghost_decide.proofs.News.{IsPassing}
use Rattle.kr_ghost_decide.proofs.decision.find_hole.Given as goal

abbrev pub invariant-loop-before : goal.invariant-loop-before
invariant-loop-before g l = IsPassing (g.P.GhostProtocol.ghosts l.protocol) (NoHoles (g.P.GhostProtocol.ghosts l.protocol) 294912) l.before l.found

abbrev pub decreases-loop-before : goal.decreases-loop-before
decreases-loop-before g l = 294912 - l.before
