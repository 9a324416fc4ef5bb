use Rattle.std.proofs.Common.{List, [], ◌∷◌, ◌++◌, All, length}
use Rattle.kr_model.specs.Map.{Map}
use Rattle.kr_trace_follow.specs.Lines.{Line}
use Rattle.kr_ghost_follow.specs.Stands.{IsStanding}
use Rattle.kr_ghost_follow.specs.Tries.{line_of}
use Rattle.kr_ghost_follow.proofs.follower.standing.Given as goal

-- Those in the list stand beside the line too, and those that are left beside the lines before it.
abbrev pub invariant-loop-alloc : goal.invariant-loop-alloc
invariant-loop-alloc g l = (q : g.row.P.Denot) (opening : Map) (lines : List Line) → All (IsStanding g.P.GhostProtocol.ghosts q opening lines) l.initial.stands.items
    → All (IsStanding g.P.GhostProtocol.ghosts q opening (lines ++ line_of l.line ∷ [])) l.others.items × All (IsStanding g.P.GhostProtocol.ghosts q opening lines) l.stands.items

abbrev pub decreases-loop-alloc : goal.decreases-loop-alloc
decreases-loop-alloc g l = length l.stands.items
