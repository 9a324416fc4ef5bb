-- The points that a run with purges reaches whose steps are those of the lines.
use Rattle.std.specs.Prelude.{◌≡◌, ℕ, zero, suc, List, [], ◌∷◌, ◌++◌, Option, None, if◌then◌else◌}
use Rattle.kr_model.specs.declared.Op.{Op}
use Rattle.kr_model.specs.declared.Op.TheVariants as op
use Rattle.kr_model.specs.Locks.{Locks}
use Rattle.kr_model.specs.Map.{Map}
use Rattle.kr_ghost.specs.declared.moves.Move.{Move}
use Rattle.kr_ghost.specs.declared.moves.Move.TheVariants.{Attempt, Purge}
use Rattle.kr_ghost.specs.Protocol.{GhostProtocol}
use Rattle.kr_trace_follow.specs.Lines.{Line}
use Rattle.kr_trace_follow.specs.Since.{Since}
use Rattle.kr_trace_follow.specs.Steps.{queue_for}
use Rattle.kr_ghost_follow.specs.Points.{Moment, Point, Tried, at_start, after_purge, falling, first_op, is_falling, is_passed, is_read, kind_at, moment_at, more_steps, point_after, read_on, tried, unread}

-- A step of t as a move, unless it waits behind others.
abbrev pub done_by : ℕ → Op → List ℕ → List Move
done_by t o [] = Attempt (record { txn = t; op = o }) ∷ []
done_by t o (u ∷ us) = []

-- This step of a line, and those with which it goes on with its scan, for at most so many.
abbrev pub all_done : GhostProtocol → Line → Locks → ℕ → Tried → List Move
all_done p l queue zero y = done_by l.event.txn y.op y.ahead
all_done p l queue (suc n) y =
    done_by l.event.txn y.op y.ahead
    ++ (if is_passed l (let m = y.left in m.state) y.ahead y.reply then all_done p l queue n (tried p queue l.event.txn y.left op.Go) else [])

-- The parts that a line reads downwards.
abbrev pub all_read : GhostProtocol → Locks → ℕ → List Op → Tried → List Move
all_read p queue t [] y = []
all_read p queue t (o ∷ os) y =
    if is_read y.ahead y.reply then (let next = read_on p queue t y.left y.reply o in done_by t o next.ahead ++ all_read p queue t os next) else []

-- The steps of a line with this first one.
abbrev pub steps_of : GhostProtocol → Line → Locks → Moment → Op → List Move
steps_of p l queue m o =
    let t = l.event.txn in
    if is_falling o then all_read p queue t (falling m.state o) (unread m o) else all_done p l queue (more_steps m.scans t o) (tried p queue t m o)

-- The steps of a line from a point.
abbrev pub moves_of : GhostProtocol → Point → Line → List Move
moves_of p at l = steps_of p l (queue_for l.observed at.waiting) (moment_at at) (first_op at.scans l)

-- The line is what the table answers at a point.
abbrev pub Agrees : GhostProtocol → Point → Line → Type 0
Agrees p at l = (since : Since) × (kind_at p since at l ≡ None)

-- From the opening map the moves, which are the steps of the lines and purges before, between and behind the lines, lead to a point; and each line is what the table answers where it comes.
pub data Leads (p : GhostProtocol) (opening : Map) : List Line → List Move → Point → Type 0 where
  start : Leads p opening [] [] (at_start opening)
  purge : (k : ℕ) (lines : List Line) (moves : List Move) (at : Point) → Leads p opening lines moves at → Leads p opening lines (moves ++ Purge k ∷ []) (after_purge p k at)
  line : (l : Line) (lines : List Line) (moves : List Move) (at : Point) → Leads p opening lines moves at → Agrees p at l
      → Leads p opening (lines ++ l ∷ []) (moves ++ moves_of p at l) (point_after p at l)

-- A run with purges leads along the lines to the point.
abbrev pub IsReached : GhostProtocol → Map → List Line → Point → Type 0
IsReached p opening lines at = (moves : List Move) × Leads p opening lines moves at
