-- Where the lines of a trace lead under a table whose deletes leave ghosts.
use Rattle.std.specs.Prelude.{ℕ, zero, suc, Bool, true, false, not, ◌-◌, ◌&&◌, ◌||◌, ◌==◌, nat_lt, min, if◌then◌else◌, List, [], ◌∷◌, ◌++◌, reverse, Option, Some, None, map}
use Rattle.std.specs.List.{flat_map}
use Rattle.kr_model.specs.declared.Op.{Op}
use Rattle.kr_model.specs.declared.Op.TheVariants as op
use Rattle.kr_model.specs.declared.Reply.{Reply}
use Rattle.kr_model.specs.declared.Reply.TheVariants as reply
use Rattle.kr_model.specs.declared.Name.{Name}
use Rattle.kr_model.specs.declared.Name.TheVariants.{Key, End}
use Rattle.kr_model.specs.Covers.{is_empty}
use Rattle.kr_model.specs.Locks.{Locks, release}
use Rattle.kr_model.specs.Map.{Map}
use Rattle.kr_ghost.specs.Protocol.{GhostProtocol}
use Rattle.kr_ghost.specs.State.{GhostState, among, name_from, opened}
use Rattle.kr_ghost.specs.Step.{purged, step}
use Rattle.kr_ghost_machine.specs.Plans.{requests_of}
use Rattle.kr_trace_lines.specs.declared.deviation.Conflict.{Conflict}
use Rattle.kr_trace_lines.specs.declared.deviation.DeviationKind.{DeviationKind}
use Rattle.kr_trace_lines.specs.declared.observed.Observed.{Observed}
use Rattle.kr_trace_lines.specs.declared.observed.Observed.TheVariants as observed
use Rattle.kr_trace_follow.specs.Conflicts.{tested_by, waits_ahead, conflicts_with, wanted}
use Rattle.kr_trace_follow.specs.Deviates.{kind_of, is_queued}
use Rattle.kr_trace_follow.specs.Following.{counted}
use Rattle.kr_trace_follow.specs.Lines.{Line}
use Rattle.kr_trace_follow.specs.Scans.{noted_of, noted_after, range_noted, range_of}
use Rattle.kr_trace_follow.specs.Since.{Since}
use Rattle.kr_trace_follow.specs.Steps.{taken, queue_for}
use Rattle.kr_trace_follow.specs.declared.conflict.Tested.{Tested}
use Rattle.kr_trace_follow.specs.declared.scans.Progress.{Progress}

-- A state under the table, the ranges of the scans in progress, the locks that are waited for, and how many lines were queued.
pub record Point : Type 0 where
  pub state : GhostState
  pub scans : List Progress
  pub waiting : Locks
  pub queued : ℕ

-- Before any line.
abbrev pub at_start : Map → Point
at_start opening = record { state = opened opening; scans = []; waiting = []; queued = 0 }

-- After a purge of k.
abbrev pub after_purge : GhostProtocol → ℕ → Point → Point
after_purge p k at = record { state = purged p at.state k; scans = at.scans; waiting = at.waiting; queued = at.queued }

-- A step --

-- The requests of a step of t, each with the mode that t holds on the name, and the converted mode in which it is tested.
abbrev pub tests_of : GhostProtocol → ℕ → GhostState → Op → List Tested
tests_of p t s o = map (tested_by p.table s.state.locks t) (requests_of p s t o)

-- Those who wait ahead of it.
abbrev pub ahead_of : GhostProtocol → Locks → ℕ → GhostState → Op → List ℕ
ahead_of p queue t s o = flat_map (waits_ahead p.table queue) (tests_of p t s o)

-- The held locks that conflict with it.
abbrev pub conflicts_of : GhostProtocol → Since → ℕ → GhostState → Op → List Conflict
conflicts_of p since t s o = flat_map (conflicts_with p.table since s.state.locks) (tests_of p t s o)

-- A state between two steps of a line, and the scans in progress.
pub record Moment : Type 0 where
  pub state : GhostState
  pub scans : List Progress

-- What comes of a step: who waits ahead of it, the table's reply, and the moment after it.
pub record Tried : Type 0 where
  pub op : Op
  pub ahead : List ℕ
  pub reply : Reply
  pub left : Moment

-- A step isn't done while somebody waits ahead of it.
abbrev pub left_after : GhostProtocol → ℕ → Moment → Op → List ℕ → Moment
left_after p t m o [] = let done = step p m.state t o in record { state = done.1; scans = noted_after m.scans t o done.0 }
left_after p t m o (u ∷ us) = m

-- A step of t, who may have to wait behind this queue.
abbrev pub tried : GhostProtocol → Locks → ℕ → Moment → Op → Tried
tried p queue t m o =
    let ahead = ahead_of p queue t m.state o in
    record { op = o; ahead = ahead; reply = let done = step p m.state t o in done.0; left = left_after p t m o ahead }

-- A scan upwards --

-- Whether a scan is given as a whole: by its rows, or as blocked on its way.
abbrev pub is_whole : Op → Observed → Bool
is_whole (op.Scan lo hi) (observed.Rows rows) = true
is_whole (op.Scan lo hi) (observed.Blocked named) = true
is_whole _ _ = false

-- Whether the engine says that the scan has read this key.
abbrev pub is_told : Observed → ℕ → Bool
is_told (observed.Going l) k = l == k
is_told _ k = false

-- Whether a line goes on after a step with this reply: a scan that is given as a whole passes each key, and any other passes a ghost of which the engine says nothing.
abbrev pub goes_on : Line → GhostState → Reply → Bool
goes_on l s (reply.Going k) = is_whole l.event.op l.observed || (among s.ghosts k && not (is_told l.observed k))
goes_on l s _ = false

abbrev pub is_passed : Line → GhostState → List ℕ → Reply → Bool
is_passed l s ahead r = is_empty ahead && goes_on l s r

-- The last step of a line, which goes on with its scan behind this step for at most so many.
abbrev pub gone_on : GhostProtocol → Line → Locks → ℕ → Tried → Tried
gone_on p l queue zero y = y
gone_on p l queue (suc n) y = if is_passed l (let m = y.left in m.state) y.ahead y.reply then gone_on p l queue n (tried p queue l.event.txn y.left op.Go) else y

-- How many keys are within a range, but for one, if there is a range.
abbrev pub size : Option (ℕ × ℕ) → ℕ
size None = 0
size (Some (lo, hi)) = hi - lo

-- Whether the operation is the scan in progress that has this range, if there is one.
abbrev pub is_same_range : Option (ℕ × ℕ) → Op → Bool
is_same_range (Some (lo, hi)) (op.Scan a b) = (lo == a) && (hi == b)
is_same_range _ _ = false

-- How many steps it may take after the first: so many keys has the rest of the scan's range at most.
abbrev pub more_steps : List Progress → ℕ → Op → ℕ
more_steps scans t o = size (range_of scans t o)

-- A scan downwards --

-- Whether a scan reads from its upper end, which then comes first.
abbrev pub is_falling : Op → Bool
is_falling (op.Scan a b) = nat_lt b a
is_falling _ = false

-- The upper end of a part of a range up to hi: the name, or hi, if that is below it.
abbrev pub upper_end : Name → ℕ → ℕ
upper_end (Key k) hi = min k hi
upper_end End hi = hi

-- A range in parts, the lowest first: one up to each name within it, and one up to its end. There are no more names below its end than this.
abbrev pub parts : GhostState → ℕ → ℕ → ℕ → List Op
parts s zero lo hi = op.Scan lo hi ∷ []
parts s (suc n) lo hi =
    let end = upper_end (name_from s lo) hi in
    op.Scan lo end ∷ (if end == hi then [] else parts s n (suc end) hi)

-- The scans by which a scan reads its range downwards.
abbrev pub falling : GhostState → Op → List Op
falling s (op.Scan hi lo) = reverse (parts s (hi - lo) lo hi)
falling s _ = []

-- Whether a part is read: the table grants it.
abbrev pub is_read : List ℕ → Reply → Bool
is_read ahead (reply.Rows rows) = is_empty ahead
is_read ahead _ = false

-- The rows of a part behind those of the parts above it.
abbrev pub behind : Reply → Reply → Reply
behind (reply.Rows above) (reply.Rows rows) = reply.Rows (above ++ rows)
behind _ r = r

-- The next part, where those above it have this reply.
abbrev pub read_on : GhostProtocol → Locks → ℕ → Moment → Reply → Op → Tried
read_on p queue t m above o =
    let next = tried p queue t m o in
    record { op = o; ahead = next.ahead; reply = behind above next.reply; left = next.left }

-- The last step of a line that reads these parts.
abbrev pub read_down : GhostProtocol → Locks → ℕ → List Op → Tried → Tried
read_down p queue t [] y = y
read_down p queue t (o ∷ os) y = if is_read y.ahead y.reply then read_down p queue t os (read_on p queue t y.left y.reply o) else y

-- No part has been read.
abbrev pub unread : Moment → Op → Tried
unread m o = record { op = o; ahead = []; reply = reply.Rows []; left = m }

-- A line --

-- The first step of a line: a scan that is in progress already, as one that was blocked on its way, goes on. One downwards begins again.
abbrev pub first_op : List Progress → Line → Op
first_op scans l =
    let o = taken l.event.op l.observed in
    if is_same_range (range_noted (noted_of scans l.event.txn)) o then op.Go else o

-- The last step of a line with this first one.
abbrev pub last_of : GhostProtocol → Line → Locks → Moment → Op → Tried
last_of p l queue m o =
    let t = l.event.txn in
    if is_falling o then read_down p queue t (falling m.state o) (unread m o) else gone_on p l queue (more_steps m.scans t o) (tried p queue t m o)

-- The moment at a point.
abbrev pub moment_at : Point → Moment
moment_at at = record { state = at.state; scans = at.scans }

-- The last step of a line from a point.
abbrev pub last_tried : GhostProtocol → Point → Line → Tried
last_tried p at l = last_of p l (queue_for l.observed at.waiting) (moment_at at) (first_op at.scans l)

-- What t waits for after a step with this reply: what it requests.
abbrev pub waited_for : GhostProtocol → ℕ → GhostState → Op → Observed → Locks
waited_for p t s o (observed.Blocked named) = map wanted (tests_of p t s o)
waited_for p t s o _ = []

-- After a line.
abbrev pub point_after : GhostProtocol → Point → Line → Point
point_after p at l =
    let last = last_tried p at l in
    let left = last.left in
    record {
      state = left.state;
      scans = left.scans;
      waiting = release at.waiting l.event.txn ++ waited_for p l.event.txn left.state last.op l.observed;
      queued = counted at.queued (is_queued last.ahead last.reply);
    }

-- How a line differs from what the table answers at a point, if it does; locks are told to be held since these lines.
abbrev pub kind_at : GhostProtocol → Since → Point → Line → Option DeviationKind
kind_at p since at l =
    let last = last_tried p at l in
    let left = last.left in
    kind_of (conflicts_of p since l.event.txn left.state last.op) last.ahead last.reply l.observed
