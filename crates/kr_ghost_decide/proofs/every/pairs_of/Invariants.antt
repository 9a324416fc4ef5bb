use Rattle.kr_ghost_decide.specs.Every.{AreListed}
use Rattle.kr_ghost_decide.proofs.every.pairs_of.Given as goal

abbrev pub invariant-loop-place : goal.invariant-loop-place
invariant-loop-place g l = AreListed (g.P.GhostProtocol.ghosts l.protocol) l.found.marks.items l.place l.pairs.items
