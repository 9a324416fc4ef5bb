-- Laws of lines that are followed one after another.
use Rattle.std.specs.Prelude.{◌≡◌, ℕ, Bool, true, false, cond, List, [], ◌∷◌, ◌++◌, Option, Some, None, refl, option_map}
use Rattle.std.proofs.Common.{◌∙◌, ap}
use Rattle.kr_model.specs.declared.Event.{Event}
use Rattle.kr_model.specs.declared.Reply.{Reply}
use Rattle.kr_model.specs.declared.Reply.TheVariants as reply
use Rattle.kr_model.specs.Protocol.{Protocol}
use Rattle.kr_model.specs.State.{State}
use Rattle.kr_model.specs.Step.{step}
use Rattle.kr_model.specs.Run.{run, is_granted}
use Rattle.kr_trace_lines.specs.declared.deviation.Conflict.{Conflict}
use Rattle.kr_trace_lines.specs.declared.deviation.Deviation.{Deviation}
use Rattle.kr_trace_lines.specs.declared.deviation.DeviationKind.{DeviationKind}
use Rattle.kr_trace_lines.specs.declared.observed.Observed.{Observed}
use Rattle.kr_trace_lines.specs.declared.observed.Observed.TheVariants as observed
use Rattle.kr_trace_lines.specs.Fits.{fits}
use Rattle.kr_trace_follow.specs.Conflicts.{conflicts_of, ahead_of}
use Rattle.kr_trace_follow.specs.Conforms.{AllFit}
use Rattle.kr_trace_follow.specs.Deviates.{kind_where_granted, kind_of, since_left, kind_at, deviation_at, is_queued}
use Rattle.kr_trace_follow.specs.Following.{Point, Following, point_after, or_later, deviation, point_left, steps_in, after_lines}
use Rattle.kr_trace_follow.specs.Lines.{Line}
use Rattle.kr_trace_follow.specs.Steps.{first_op, more_steps, queue_for, attempt_at, last_of, steps_of, outcome_of}
use Rattle.kr_trace_follow.proofs.StepLaws.{all_ran}

-- The run of lines --

ran_on : (p : Protocol) (s : State) (xs ys : List Event) → (let r = run p s (xs ++ ys) in r.state) ≡ (let r = run p s xs in let q = run p r.state ys in q.state)
ran_on p s [] ys = refl
ran_on p s (x ∷ xs) ys = ran_on p (step p s x.txn x.op).1 xs ys

pub lines_ran : (p : Protocol) (at : Point) (lines : List Line) → (let r = run p at.state (steps_in p at lines) in r.state) ≡ (let left = point_left p at lines in left.state)
lines_ran p at [] = refl
lines_ran p at (l ∷ ls) =
    let later = steps_in p (point_after p at l) ls in
    ran_on p at.state (steps_of p at.waiting at.state l) later
    ∙ ap (λ z. let q = run p z later in q.state) (all_ran p (queue_for l.observed at.waiting) l.event.txn (more_steps l.event.op l.observed) (attempt_at at.state (first_op at.state l)))
    ∙ lines_ran p (point_after p at l) ls

-- Lines that don't deviate --

none_of : (b : Bool) (k : DeviationKind) → cond b None (Some k) ≡ None → b ≡ true
none_of true k h = refl
none_of false k h = absurd (cc)

granted_fits : (r : Reply) (ahead : List ℕ) (o : Observed) → is_granted r ≡ true → kind_where_granted r ahead o ≡ None → is_queued ahead r ≡ false → fits r o ≡ true
granted_fits r [] (observed.Blocked named) g h q = absurd (cc)
granted_fits r (u ∷ us) (observed.Blocked named) g h q = let no : is_granted r ≡ false = q in absurd (cc)
granted_fits r ahead (observed.Found v) g h q = none_of _ _ h
granted_fits r ahead observed.None g h q = none_of _ _ h
granted_fits r ahead (observed.Going k) g h q = none_of _ _ h
granted_fits r ahead (observed.Rows rows) g h q = none_of _ _ h
granted_fits r ahead observed.Done g h q = none_of _ _ h
granted_fits r ahead observed.Duplicate g h q = none_of _ _ h
granted_fits r ahead (observed.Deleted v) g h q = none_of _ _ h
granted_fits r ahead observed.Absent g h q = none_of _ _ h
granted_fits r ahead (observed.Updated v) g h q = none_of _ _ h
granted_fits r ahead (observed.Undone n) g h q = none_of _ _ h
granted_fits r ahead observed.Committed g h q = none_of _ _ h
granted_fits r ahead observed.Aborted g h q = none_of _ _ h

-- Where nothing differs the reply is the one that was observed, unless the line is queued.
pub kind_fits : (conflicts : List Conflict) (ahead : List ℕ) (r : Reply) (o : Observed) → kind_of conflicts ahead r o ≡ None → is_queued ahead r ≡ false → fits r o ≡ true
kind_fits cs us (reply.Blocked vs) (observed.Blocked named) h q = refl
kind_fits cs us (reply.Blocked vs) _ h q = absurd (cc)
kind_fits cs us (reply.Refused r) o h q = absurd (cc)
kind_fits cs us (reply.Found v) o h q = granted_fits (reply.Found v) us o refl h q
kind_fits cs us reply.None o h q = granted_fits reply.None us o refl h q
kind_fits cs us (reply.Going k) o h q = granted_fits (reply.Going k) us o refl h q
kind_fits cs us (reply.Rows rows) o h q = granted_fits (reply.Rows rows) us o refl h q
kind_fits cs us reply.Done o h q = granted_fits reply.Done us o refl h q
kind_fits cs us reply.Duplicate o h q = granted_fits reply.Duplicate us o refl h q
kind_fits cs us (reply.Deleted v) o h q = granted_fits (reply.Deleted v) us o refl h q
kind_fits cs us reply.Absent o h q = granted_fits reply.Absent us o refl h q
kind_fits cs us (reply.Updated v) o h q = granted_fits (reply.Updated v) us o refl h q
kind_fits cs us reply.Committed o h q = granted_fits reply.Committed us o refl h q
kind_fits cs us reply.Aborted o h q = granted_fits reply.Aborted us o refl h q
kind_fits cs us (reply.Undone n) o h q = granted_fits (reply.Undone n) us o refl h q

pub or_first : (x later : Option Deviation) → or_later x later ≡ None → (x ≡ None) × (later ≡ None)
or_first (Some d) later h = absurd (cc)
or_first None later h = (refl, h)

pub no_kind : (n : ℕ) (k : Option DeviationKind) → ◌≡◌ {A = Option Deviation} (option_map (λ x. record { line = n; kind = x }) k) None → k ≡ None
no_kind n (Some k) h = absurd (cc)
no_kind n None h = refl

pub all_fit : (p : Protocol) (at : Point) (lines : List Line) → deviation p at lines ≡ None → AllFit p at lines
all_fit p at [] h = tt
all_fit p at (l ∷ ls) h =
    let both = or_first (deviation_at p at.since at.waiting at.state l) (deviation p (point_after p at l) ls) h in
    let last = last_of p at.waiting at.state l in (
      λ q. kind_fits (conflicts_of p (since_left p at.since at.waiting at.state l) l.event.txn last) (ahead_of p (queue_for l.observed at.waiting) l.event.txn last) (outcome_of p at.waiting at.state l).0 l.observed
          (no_kind l.number (kind_at p at.since at.waiting at.state l) both.0) q,
      all_fit p (point_after p at l) ls both.1,
    )

-- A follower --

stays_found : (p : Protocol) (at : Point) (d : Deviation) (lines : List Line) → after_lines p (record { at = at; found = Some d }) lines ≡ record { at = at; found = Some d }
stays_found p at d [] = refl
stays_found p at d (l ∷ ls) = stays_found p at d ls

found_by : (p : Protocol) (at : Point) (l : Line) (ls : List Line) (x : Option Deviation) → (let f = after_lines p (record { at = point_after p at l; found = None }) ls in f.found) ≡ deviation p (point_after p at l) ls
    → (let f = after_lines p (record { at = point_after p at l; found = x }) ls in f.found) ≡ or_later x (deviation p (point_after p at l) ls)
found_by p at l ls (Some d) h = ap (λ (f : Following). f.found) (stays_found p (point_after p at l) d ls)
found_by p at l ls None h = h

pub found_first : (p : Protocol) (at : Point) (lines : List Line) → (let f = after_lines p (record { at = at; found = None }) lines in f.found) ≡ deviation p at lines
found_first p at [] = refl
found_first p at (l ∷ ls) = found_by p at l ls (deviation_at p at.since at.waiting at.state l) (found_first p (point_after p at l) ls)

followed_by : (p : Protocol) (at : Point) (l : Line) (ls : List Line) (x : Option Deviation) → x ≡ None → (let f = after_lines p (record { at = point_after p at l; found = None }) ls in f.at) ≡ point_left p (point_after p at l) ls
    → (let f = after_lines p (record { at = point_after p at l; found = x }) ls in f.at) ≡ point_left p (point_after p at l) ls
followed_by p at l ls (Some d) e h = absurd (cc)
followed_by p at l ls None e h = h

pub followed_all : (p : Protocol) (at : Point) (lines : List Line) → deviation p at lines ≡ None → (let f = after_lines p (record { at = at; found = None }) lines in f.at) ≡ point_left p at lines
followed_all p at [] h = refl
followed_all p at (l ∷ ls) h =
    let both = or_first (deviation_at p at.since at.waiting at.state l) (deviation p (point_after p at l) ls) h in
    followed_by p at l ls (deviation_at p at.since at.waiting at.state l) both.0 (followed_all p (point_after p at l) ls both.1)
