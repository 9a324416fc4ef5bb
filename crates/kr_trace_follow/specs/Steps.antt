-- The steps that a line stands for.
use Rattle.std.specs.Prelude.{ℕ, zero, suc, ◌-◌, Bool, true, false, not, ◌&&◌, ◌==◌, List, [], ◌∷◌, Option, Some, if◌then◌else◌}
use Rattle.kr_model.specs.declared.Event.{Event}
use Rattle.kr_model.specs.declared.Op.{Op}
use Rattle.kr_model.specs.declared.Op.TheVariants as op
use Rattle.kr_model.specs.declared.Reply.{Reply}
use Rattle.kr_model.specs.declared.Reply.TheVariants as reply
use Rattle.kr_model.specs.Protocol.{Protocol}
use Rattle.kr_model.specs.Locks.{Locks}
use Rattle.kr_model.specs.State.{Scan, State, standing}
use Rattle.kr_model.specs.Step.{Outcome, step}
use Rattle.kr_trace_lines.specs.declared.observed.Observed.{Observed}
use Rattle.kr_trace_lines.specs.declared.observed.Observed.TheVariants as observed
use Rattle.kr_trace_follow.specs.Lines.{Line, Attempt}
use Rattle.kr_trace_follow.specs.Conflicts.{is_behind}

-- The first step --

-- What the engine did. Where it aborted the transaction in place of the operation, as the victim of a deadlock or after a timeout, that is an abort.
abbrev pub taken : Op → Observed → Op
taken o observed.Aborted = op.Abort
taken o _ = o

-- Whether the operation is the scan in progress, from its lower to its upper end.
abbrev pub is_same_scan : Option Scan → Op → Bool
is_same_scan (Some c) (op.Scan lo hi) = (c.lo == lo) && (c.hi == hi)
is_same_scan _ _ = false

-- The first step of a line: a scan that is in progress already, as one that was blocked on its way, goes on.
abbrev pub first_op : State → Line → Op
first_op s l = if is_same_scan (standing s l.event.txn).scan (taken l.event.op l.observed) then op.Go else taken l.event.op l.observed

-- How many steps a line may take after its first. A scan that is given as a whole, by its rows or as blocked on its way, takes its steps up to the first that doesn't go on; there are no more keys than this below its upper end.
abbrev pub more_steps : Op → Observed → ℕ
more_steps (op.Scan lo hi) (observed.Rows rows) = hi - lo
more_steps (op.Scan lo hi) (observed.Blocked named) = hi - lo
more_steps _ _ = 0

-- Waiting in a queue --

-- The locks that a step may have to wait behind. A step that the engine doesn't block passes all who wait.
abbrev pub queue_for : Observed → Locks → Locks
queue_for (observed.Blocked named) waiting = waiting
queue_for _ waiting = []

-- The reply of the table to a step of t, and the state after it. A step isn't done while somebody waits ahead of it.
abbrev pub in_turn : Protocol → Locks → ℕ → Attempt → Outcome
in_turn p queue t a = let done = step p a.before t a.op in if is_behind p queue t a then (done.0, a.before) else done

-- Whole scans --

-- Whether a scan goes on after this reply.
abbrev pub is_going : Reply → Bool
is_going (reply.Going k) = true
is_going _ = false

-- Whether a scan goes on after this step: it is done, and its reply says so.
abbrev pub is_passed : Protocol → Locks → ℕ → Attempt → Bool
is_passed p queue t a = not (is_behind p queue t a) && is_going (let done = step p a.before t a.op in done.0)

-- A step that is attempted.
abbrev pub attempt_at : State → Op → Attempt
attempt_at s o = record { before = s; op = o }

-- The state after a step of t.
abbrev pub after_step : Protocol → ℕ → Attempt → State
after_step p t a = let done = step p a.before t a.op in done.1

-- The last step of t, which begins with this one and goes on with its scan for at most so many steps.
abbrev pub last_step : Protocol → Locks → ℕ → ℕ → Attempt → Attempt
last_step p queue t zero a = a
last_step p queue t (suc n) a = if is_passed p queue t a then last_step p queue t n (attempt_at (after_step p t a) op.Go) else a

-- All these steps, in their order, but for one that waits behind others.
abbrev pub all_steps : Protocol → Locks → ℕ → ℕ → Attempt → List Event
all_steps p queue t zero a = if is_behind p queue t a then [] else record { txn = t; op = a.op } ∷ []
all_steps p queue t (suc n) a =
    if is_behind p queue t a then []
    else record { txn = t; op = a.op } ∷ (if is_passed p queue t a then all_steps p queue t n (attempt_at (after_step p t a) op.Go) else [])

-- A line --

-- The last step of a line, where these locks are waited for.
abbrev pub last_of : Protocol → Locks → State → Line → Attempt
last_of p waiting s l = last_step p (queue_for l.observed waiting) l.event.txn (more_steps l.event.op l.observed) (attempt_at s (first_op s l))

-- The steps of a line.
abbrev pub steps_of : Protocol → Locks → State → Line → List Event
steps_of p waiting s l = all_steps p (queue_for l.observed waiting) l.event.txn (more_steps l.event.op l.observed) (attempt_at s (first_op s l))

-- The table's reply to a line, and the state after it: those of its last step.
abbrev pub outcome_of : Protocol → Locks → State → Line → Outcome
outcome_of p waiting s l = in_turn p (queue_for l.observed waiting) l.event.txn (last_of p waiting s l)
