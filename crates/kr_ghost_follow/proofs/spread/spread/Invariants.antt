use Rattle.std.proofs.Common.{List, All}
use Rattle.kr_model.specs.Map.{Map}
use Rattle.kr_trace_follow.specs.Lines.{Line}
use Rattle.kr_ghost_follow.specs.Stands.{IsStanding}
use Rattle.kr_ghost_follow.proofs.spread.spread.Given as goal

-- All stand.
abbrev pub invariant-loop-i : goal.invariant-loop-i
invariant-loop-i g l = (q : g.row.P.Denot) (opening : Map) (lines : List Line) → IsStanding g.P.GhostProtocol.ghosts q opening lines l.first → All (IsStanding g.P.GhostProtocol.ghosts q opening lines) l.fn.others.items
    → All (IsStanding g.P.GhostProtocol.ghosts q opening lines) l.others.items
