use Rattle.kr_ghost_decide.specs.Found.{AreHeirs}
use Rattle.kr_ghost_decide.proofs.found.Found.heirs.Given as goal

abbrev pub invariant-loop-place : goal.invariant-loop-place
invariant-loop-place g l = AreHeirs (g.P.GhostProtocol.ghosts l.protocol) l.self.marks.items l.place l.list.items
