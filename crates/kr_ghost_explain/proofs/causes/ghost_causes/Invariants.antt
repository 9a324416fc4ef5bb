use Rattle.std.specs.Prelude.{length}
use Rattle.kr_ghost_explain.proofs.Sharing.{AreSharedSoFar}
use Rattle.kr_ghost_explain.proofs.causes.ghost_causes.Given as goal

-- the causes so far, and what is left
abbrev pub invariant-loop-alloc : goal.invariant-loop-alloc
invariant-loop-alloc g l = AreSharedSoFar (g.P.GhostProtocol.ghosts l.protocol) l.failed l.causes.items l.left.items

abbrev pub decreases-loop-alloc : goal.decreases-loop-alloc
decreases-loop-alloc g l = length l.left.items
