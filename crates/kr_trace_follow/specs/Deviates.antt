-- How a line of a trace differs from what the table answers.
use Rattle.std.specs.Prelude.{ℕ, Bool, not, ◌==◌, ◌&&◌, List, [], ◌∷◌, Option, Some, None, filter, if◌then◌else◌, option_map}
use Rattle.std.specs.List.{list_any}
use Rattle.kr_model.specs.declared.Reply.{Reply}
use Rattle.kr_model.specs.declared.Reply.TheVariants as reply
use Rattle.kr_model.specs.Covers.{is_empty}
use Rattle.kr_model.specs.Protocol.{Protocol}
use Rattle.kr_model.specs.Locks.{Locks, Holder}
use Rattle.kr_model.specs.Run.{is_granted}
use Rattle.kr_model.specs.State.{State}
use Rattle.kr_trace_lines.specs.declared.deviation.Conflict.{Conflict}
use Rattle.kr_trace_lines.specs.declared.deviation.Deviation.{Deviation}
use Rattle.kr_trace_lines.specs.declared.deviation.DeviationKind.{DeviationKind}
use Rattle.kr_trace_lines.specs.declared.deviation.DeviationKind.TheVariants as kind
use Rattle.kr_trace_lines.specs.declared.observed.Observed.{Observed}
use Rattle.kr_trace_lines.specs.declared.observed.Observed.TheVariants as observed
use Rattle.kr_trace_lines.specs.Fits.{fits}
use Rattle.kr_trace_follow.specs.Conflicts.{conflicts_of, ahead_of}
use Rattle.kr_trace_follow.specs.Lines.{Line}
use Rattle.kr_trace_follow.specs.Since.{Since, since_along, line_of}
use Rattle.kr_trace_follow.specs.Steps.{queue_for, last_of, steps_of, outcome_of}

-- The transactions that are named as blockers, and neither are blockers nor wait ahead.
abbrev pub misnamed : List ℕ → List ℕ → List ℕ → List ℕ
misnamed named blockers ahead = filter (λ t. not (list_any (λ u. u == t) blockers) && not (list_any (λ u. u == t) ahead)) named

-- Where the engine and the table have a step wait, the engine names some of those in its way, or none.
abbrev pub kind_where_misnamed : List ℕ → List ℕ → Option DeviationKind
kind_where_misnamed [] blockers = None
kind_where_misnamed (t ∷ ts) blockers = Some (kind.Blockers (t ∷ ts) blockers)

-- How what was observed differs where the table blocks the step: an engine that doesn't block it grants what conflicts with held locks.
abbrev pub kind_where_blocked : List Conflict → List ℕ → List ℕ → Observed → Option DeviationKind
kind_where_blocked conflicts ahead blockers (observed.Blocked named) = kind_where_misnamed (misnamed named blockers ahead) blockers
kind_where_blocked conflicts ahead blockers _ = Some (kind.Granted blockers conflicts)

-- How a step that the engine blocks differs where the table grants it: it may wait behind others, whom no lock blocks.
abbrev pub kind_where_queued : Reply → List ℕ → List ℕ → Option DeviationKind
kind_where_queued r named [] = Some (kind.Blocked r)
kind_where_queued r named (u ∷ us) = kind_where_misnamed (misnamed named [] (u ∷ us)) []

-- How what was observed differs from the reply of a step that the table grants.
abbrev pub kind_where_granted : Reply → List ℕ → Observed → Option DeviationKind
kind_where_granted r ahead (observed.Blocked named) = kind_where_queued r named ahead
kind_where_granted r ahead o = if fits r o then None else Some (kind.Answer r)

-- How what was observed differs from the reply of the table, if it does; the locks that conflict with the step are given, and who waits ahead of it.
abbrev pub kind_of : List Conflict → List ℕ → Reply → Observed → Option DeviationKind
kind_of conflicts ahead (reply.Blocked blockers) o = kind_where_blocked conflicts ahead blockers o
kind_of conflicts ahead (reply.Refused r) o = Some (kind.Refused r)
kind_of conflicts ahead r o = kind_where_granted r ahead o

-- The lines since which locks are held after a line: its steps are those of that line. It leaves the locks of other transactions than its own.
abbrev pub since_left : Protocol → List (Holder × ℕ) → Locks → State → Line → Since
since_left p since waiting s l = since_along p l.number s (steps_of p waiting s l) (line_of since)

-- How a line differs from what the table answers in this state, if it does; locks are held since these lines, and these locks are waited for.
abbrev pub kind_at : Protocol → List (Holder × ℕ) → Locks → State → Line → Option DeviationKind
kind_at p since waiting s l =
    let last = last_of p waiting s l in
    let done = outcome_of p waiting s l in
    kind_of (conflicts_of p (since_left p since waiting s l) l.event.txn last) (ahead_of p (queue_for l.observed waiting) l.event.txn last) done.0 l.observed

-- The deviation of a line, if it deviates.
abbrev pub deviation_at : Protocol → List (Holder × ℕ) → Locks → State → Line → Option Deviation
deviation_at p since waiting s l = option_map (λ k. record { line = l.number; kind = k }) (kind_at p since waiting s l)

-- Whether a step waits behind others alone: the table grants it.
abbrev pub is_queued : List ℕ → Reply → Bool
is_queued ahead r = not (is_empty ahead) && is_granted r

-- Whether a line is queued: its last step waits behind others alone.
abbrev pub is_queued_at : Protocol → Locks → State → Line → Bool
is_queued_at p waiting s l =
    let done = outcome_of p waiting s l in
    is_queued (ahead_of p (queue_for l.observed waiting) l.event.txn (last_of p waiting s l)) done.0
