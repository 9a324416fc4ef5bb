use Rattle.kr_ghost_decide.specs.Found.{IsPassed, AreFollowed}
use Rattle.kr_ghost_decide.proofs.found.Found.pass.Given as goal

abbrev pub invariant-loop-place : goal.invariant-loop-place
invariant-loop-place g l = IsPassed (g.P.GhostProtocol.ghosts l.protocol) (AreFollowed (g.P.GhostProtocol.ghosts l.protocol) l.heirs l.place) l.fn.self l.self
