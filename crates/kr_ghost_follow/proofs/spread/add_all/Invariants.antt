use Rattle.std.proofs.Common.{List, All, length}
use Rattle.kr_model.specs.Map.{Map}
use Rattle.kr_trace_follow.specs.Lines.{Line}
use Rattle.kr_ghost_follow.specs.Stands.{IsStanding}
use Rattle.kr_ghost_follow.proofs.spread.add_all.Given as goal

-- Those that were added stand, and so do those that are left.
abbrev pub invariant-loop-alloc : goal.invariant-loop-alloc
invariant-loop-alloc g l = (q : g.row.P.Denot) (opening : Map) (lines : List Line) → All (IsStanding g.P.GhostProtocol.ghosts q opening lines) l.initial.stands.items → All (IsStanding g.P.GhostProtocol.ghosts q opening lines) l.initial.more.items
    → All (IsStanding g.P.GhostProtocol.ghosts q opening lines) l.stands.items × All (IsStanding g.P.GhostProtocol.ghosts q opening lines) l.more.items

abbrev pub decreases-loop-alloc : goal.decreases-loop-alloc
decreases-loop-alloc g l = length l.more.items
