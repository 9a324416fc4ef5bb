-- What was given in lines that don't deviate.
use Rattle.std.specs.Prelude.{◌≡◌, ℕ, zero, suc, Bool, true, false, not, ◌&&◌, ◌==◌, cond, if◌then◌else◌, List, [], ◌∷◌, ◌++◌, Option, Some, None, refl}
use Rattle.std.specs.List.{flat_map}
use Rattle.std.proofs.Common.{sym, ◌∙◌, ap, ap₂, subst, inl, inr, arith}
use Rattle.std.proofs.lemmas.Bool.Decides.{nat_tests}
use Rattle.kr_model.specs.declared.Event.{Event}
use Rattle.kr_model.specs.declared.Op.{Op}
use Rattle.kr_model.specs.declared.Op.TheVariants as op
use Rattle.kr_model.specs.declared.Reply.{Reply}
use Rattle.kr_model.specs.declared.Reply.TheVariants as reply
use Rattle.kr_model.specs.Covers.{is_empty}
use Rattle.kr_model.specs.Protocol.{Protocol}
use Rattle.kr_model.specs.Locks.{Locks}
use Rattle.kr_model.specs.Log.{Log, no_log, logged, log_after}
use Rattle.kr_model.specs.Map.{Map}
use Rattle.kr_model.specs.Run.{Answered, Program, run, programs, is_granted}
use Rattle.kr_model.specs.Serial.{whole, AreAnswered, AreSerial, all_operations, map_left}
use Rattle.kr_model.specs.State.{Scan, State, start, standing}
use Rattle.kr_model.specs.Step.{Outcome, step}
use Rattle.kr_model.proofs.LogLaws.{log_of_run}
use Rattle.kr_model.proofs.LogReads.{event}
use Rattle.kr_trace_lines.specs.declared.observed.Observed.{Observed}
use Rattle.kr_trace_lines.specs.declared.observed.Observed.TheVariants as observed
use Rattle.kr_trace_lines.specs.Fits.{fits}
use Rattle.kr_trace_follow.specs.declared.conflict.Tested.{Tested}
use Rattle.kr_trace_follow.specs.Conflicts.{tests_of, waits_ahead, waits_for_conflicts, conflicts_of, ahead_of, is_behind}
use Rattle.kr_trace_follow.specs.Deviates.{since_left, kind_at, deviation_at}
use Rattle.kr_trace_follow.specs.Following.{Point, at_start, point_after, deviation, steps_in}
use Rattle.kr_trace_follow.specs.Lines.{Line, Attempt}
use Rattle.kr_trace_follow.specs.Programs.{Tales, no_tales, tales_after, tales_of, given_programs}
use Rattle.kr_trace_follow.specs.Steps.{taken, is_same_scan, first_op, more_steps, queue_for, in_turn, is_going, attempt_at, after_step, last_step, all_steps, last_of, steps_of, outcome_of}
use Rattle.kr_trace_follow.specs.Given.{Given, AreSerialWhereGiven}
use Rattle.kr_trace_follow.proofs.ConformLaws.{kind_fits, or_first, no_kind}
use Rattle.kr_trace_follow.proofs.ScanSteps.{GoesOn, Leaves, step_leaves}
use Rattle.kr_trace_follow.proofs.StepLaws.{turn_reply, turn_done, turn_waits, all_ran}
use Rattle.kr_trace_follow.proofs.TaleLaws.{answered_given, left_given}
use Rattle.kr_trace_follow.proofs.TaleSteps.{IsSaid, said_on}
use Rattle.kr_trace_follow.proofs.TaleRuns.{AreProgramsGiven, IsGivenOf, step_given, passed_given}
use Rattle.kr_trace_follow.proofs.GivenLaws.{given_append}

-- The log after events.
abbrev log_run : Protocol → State → Log → List Event → Log
log_run p s lg es = log_after lg (run p s es).history

-- The steps of a line --

-- Where a scan has come by its steps but the last, of which lines say nothing.
record IsBefore (p : Protocol) (queue : Locks) (t : ℕ) (said : Op) (lg : Log) (w : Tales) (from : State) (steps : List Event) (last : Attempt) : Type 0 where
  log : Log
  given : IsGivenOf last.before log w
  says : IsSaid said last.op (standing last.before t).scan
  log_is : log_run p from lg steps ≡ log_run p last.before log (cond (is_behind p queue t last) [] (event t last.op ∷ []))

pub going_is : (r : Reply) → is_going r ≡ true → (k : ℕ) × (r ≡ reply.Going k)
going_is (reply.Going k) e = (k, refl)
going_is _ e = absurd (cc)

more_before : (p : Protocol) (queue : Locks) (t : ℕ) (said : Op) (n : ℕ) (a : Attempt) (lg : Log) (w : Tales) (b g : Bool) → is_behind p queue t a ≡ b → is_going (step p a.before t a.op).0 ≡ g
    → IsGivenOf a.before lg w → IsSaid said a.op (standing a.before t).scan
    → ((next : Attempt) (log : Log) → IsGivenOf next.before log w → IsSaid said next.op (standing next.before t).scan → IsBefore p queue t said log w next.before (all_steps p queue t n next) (last_step p queue t n next))
    → IsBefore p queue t said lg w a.before
    (cond b [] (event t a.op ∷ cond (not b && g) (all_steps p queue t n (attempt_at (after_step p t a) op.Go)) []))
    (cond (not b && g) (last_step p queue t n (attempt_at (after_step p t a) op.Go)) a)
more_before p queue t said n a lg w true g be ge k say rest = record {
  log = lg;
  given = k;
  says = say;
  log_is = ap (λ x. log_run p a.before lg (cond x [] (event t a.op ∷ []))) (sym be);
}
more_before p queue t said n a lg w false false be ge k say rest = record {
  log = lg;
  given = k;
  says = say;
  log_is = ap (λ x. log_run p a.before lg (cond x [] (event t a.op ∷ []))) (sym be);
}
more_before p queue t said n a lg w false true be ge k say rest =
    let done : Outcome = step p a.before t a.op in
    let going = going_is done.0 ge in
    let is : ◌≡◌ {A = Outcome} (reply.Going going.0, done.1) (step p a.before t a.op) = ap (λ r. let it : Outcome = (r, done.1) in it) (sym going.1) in
    let left : GoesOn (standing a.before t).scan a.op going.0 (standing done.1 t).scan = subst (λ (d : Outcome). Leaves a.before t a.op d.0 d.1) (sym is) (step_leaves p a.before t a.op) in
    let f = rest (attempt_at done.1 op.Go) (logged lg (event t a.op, reply.Going going.0)) (passed_given p a.before lg w t a.op going.0 done.1 is k) (said_on said a.op going.0 (standing a.before t).scan (standing done.1 t).scan say left) in
    record {
      log = f.log;
      given = f.given;
      says = f.says;
      log_is = ap (λ r. log_run p done.1 (logged lg (event t a.op, r)) (all_steps p queue t n (attempt_at done.1 op.Go))) going.1 ∙ f.log_is;
    }

before_last : (p : Protocol) (queue : Locks) (t : ℕ) (said : Op) (n : ℕ) (a : Attempt) (lg : Log) (w : Tales) → IsGivenOf a.before lg w → IsSaid said a.op (standing a.before t).scan
    → IsBefore p queue t said lg w a.before (all_steps p queue t n a) (last_step p queue t n a)
before_last p queue t said zero a lg w k say = record { log = lg; given = k; says = say; log_is = refl }
before_last p queue t said (suc n) a lg w k say =
    more_before p queue t said n a lg w (is_behind p queue t a) (is_going (step p a.before t a.op).0) refl refl k say
    (λ next log h g. before_last p queue t said n next log w h g)

-- A line --

-- Nobody waits ahead of a step that the engine doesn't block.
pub none_of_none : (p : Protocol) (qs : List Tested) → flat_map (waits_ahead p []) qs ≡ []
none_of_none p [] = refl
none_of_none p (q ∷ qs) = by (q.tested == q.own) (none_of_none p qs)
  where
    by : (covered : Bool) → flat_map (waits_ahead p []) qs ≡ [] → (if covered then [] else waits_for_conflicts p [] q) ++ flat_map (waits_ahead p []) qs ≡ []
    by true rest = rest
    by false rest = rest

none_behind : (p : Protocol) (t : ℕ) (a : Attempt) → is_behind p [] t a ≡ false
none_behind p t a = ap (λ xs. not (is_empty xs)) (none_of_none p (tests_of p t a))

behind_blocked : (p : Protocol) (waiting : Locks) (t : ℕ) (a : Attempt) (o : Observed) → is_behind p (queue_for o waiting) t a ≡ true → (named : List ℕ) × (o ≡ observed.Blocked named)
behind_blocked p waiting t a (observed.Blocked named) e = (named, refl)
behind_blocked p waiting t a _ e = absurd (let no = none_behind p t a in cc)

pub same_number : (a b : ℕ) → (a == b) ≡ true → a ≡ b
same_number a b e = grind (arith, nat_tests)

-- The first step of a line is what it says, or goes on with the scan that it says.
first_said : (c : Option Scan) (o : Op) → IsSaid o (cond (is_same_scan c o) op.Go o) c
first_said None o = inl refl
first_said (Some c) (op.Scan lo hi) = by (c.lo == lo) (c.hi == hi) refl refl
  where
    by : (x y : Bool) → (c.lo == lo) ≡ x → (c.hi == hi) ≡ y → IsSaid (op.Scan lo hi) (cond (x && y) op.Go (op.Scan lo hi)) (Some c)
    by true true e f = inr (refl, (c, (refl, ap₂ (λ u v. op.Scan u v) (sym (same_number c.lo lo e)) (sym (same_number c.hi hi f)))))
    by true false e f = inl refl
    by false y e f = inl refl
first_said (Some c) _ = inl refl

-- Of an abort in place of an operation the operation isn't given.
pub taken_given : (w : Tales) (t : ℕ) (o : Op) (b : Observed) → tales_after w t (taken o b) b ≡ tales_after w t o b
taken_given w t o observed.Aborted = refl
taken_given w t o _ = refl

line_given : (p : Protocol) (at : Point) (l : Line) (lg : Log) (w : Tales) → kind_at p at.since at.waiting at.state l ≡ None → IsGivenOf at.state lg w
    → IsGivenOf (outcome_of p at.waiting at.state l).1 (log_run p at.state lg (steps_of p at.waiting at.state l)) (tales_after w l.event.txn l.event.op l.observed)
line_given p at l lg w none k = by (is_behind p queue t last) refl
  where
    t : ℕ
    t = l.event.txn

    said : Op
    said = taken l.event.op l.observed

    queue : Locks
    queue = queue_for l.observed at.waiting

    last : Attempt
    last = last_of p at.waiting at.state l

    before : IsBefore p queue t said lg w at.state (steps_of p at.waiting at.state l) last
    before = before_last p queue t said (more_steps l.event.op l.observed) (attempt_at at.state (first_op at.state l)) lg w k (first_said (standing at.state t).scan said)

    by : (b : Bool) → is_behind p queue t last ≡ b → IsGivenOf (in_turn p queue t last).1 (log_run p at.state lg (steps_of p at.waiting at.state l)) (tales_after w t l.event.op l.observed)
    by true e =
        let blocked = behind_blocked p at.waiting t last l.observed e in
        let logs = before.log_is ∙ ap (λ b. log_run p last.before before.log (cond b [] (event t last.op ∷ []))) e in
        subst (λ z. IsGivenOf z (log_run p at.state lg (steps_of p at.waiting at.state l)) (tales_after w t l.event.op l.observed)) (sym (turn_waits p queue t last e))
        (subst (λ z. IsGivenOf last.before z (tales_after w t l.event.op l.observed)) (sym logs)
        (subst (λ z. IsGivenOf last.before before.log (tales_after w t l.event.op z)) (sym blocked.1) before.given))
    by false e =
        let done : Outcome = step p last.before t last.op in
        let logs = before.log_is ∙ ap (λ b. log_run p last.before before.log (cond b [] (event t last.op ∷ []))) e in
        let ahead = ahead_of p queue t last in
        let r = (outcome_of p at.waiting at.state l).0 in
        let fit = kind_fits (conflicts_of p (since_left p at.since at.waiting at.state l) t last) ahead r l.observed none (ap (λ b. b && is_granted r) e) in
        let f : fits done.0 l.observed ≡ true = ap (λ z. fits z l.observed) (sym (turn_reply p queue t last)) ∙ fit in
        subst (λ z. IsGivenOf z (log_run p at.state lg (steps_of p at.waiting at.state l)) (tales_after w t l.event.op l.observed)) (sym (ap (λ (d : Outcome). d.1) (turn_done p queue t last e)))
        (subst (λ z. IsGivenOf done.1 z (tales_after w t l.event.op l.observed)) (sym logs)
        (subst (λ z. IsGivenOf done.1 (logged before.log (event t last.op, done.0)) z) (taken_given w t l.event.op l.observed)
        (step_given p last.before before.log w t said last.op done.0 done.1 l.observed refl before.given before.says f)))

-- Lines --

log_on : (p : Protocol) (s : State) (lg : Log) (xs ys : List Event) → log_run p s lg (xs ++ ys) ≡ log_run p (run p s xs).state (log_run p s lg xs) ys
log_on p s lg [] ys = refl
log_on p s lg (x ∷ xs) ys = log_on p (step p s x.txn x.op).1 (logged lg (x, (step p s x.txn x.op).0)) xs ys

lines_given : (p : Protocol) (at : Point) (lines : List Line) (lg : Log) (w : Tales) → deviation p at lines ≡ None → IsGivenOf at.state lg w
    → AreProgramsGiven (log_run p at.state lg (steps_in p at lines)).committed (tales_of w lines).committed
lines_given p at [] lg w none k = k.committed
lines_given p at (l ∷ ls) lg w none k =
    let both = or_first (deviation_at p at.since at.waiting at.state l) (deviation p (point_after p at l) ls) none in
    let steps = steps_of p at.waiting at.state l in
    let later = steps_in p (point_after p at l) ls in
    let given = line_given p at l lg w (no_kind l.number (kind_at p at.since at.waiting at.state l) both.0) k in
    let ran = all_ran p (queue_for l.observed at.waiting) l.event.txn (more_steps l.event.op l.observed) (attempt_at at.state (first_op at.state l)) in
    let logs = log_on p at.state lg steps later ∙ ap (λ s. log_run p s (log_run p at.state lg steps) later) ran in
    subst (λ (z : Log). AreProgramsGiven z.committed (tales_of (tales_after w l.event.txn l.event.op l.observed) ls).committed) (sym logs)
    (lines_given p (point_after p at l) ls (log_run p at.state lg steps) (tales_after w l.event.txn l.event.op l.observed) both.1 given)

-- Programs --

pub front_answered : (m : Map) (xs ys : List Answered) → AreAnswered m (xs ++ ys) → AreAnswered m xs
front_answered m [] ys h = tt
front_answered m ((o, a) ∷ xs) ys h = (h.0, front_answered (whole m o).1 xs ys h.1)

pub back_answered : (m : Map) (xs ys : List Answered) → AreAnswered m (xs ++ ys) → AreAnswered (map_left m xs) ys
back_answered m [] ys h = h
back_answered m ((o, a) ∷ xs) ys h = back_answered (whole m o).1 xs ys h.1

serial_given : (m : Map) (qs : List Program) (ys : List (List Given)) → AreProgramsGiven qs ys → AreSerial m qs → AreSerialWhereGiven m ys
serial_given m [] [] h g = tt
serial_given m [] (y ∷ ys) h g = absurd h
serial_given m (q ∷ qs) [] h g = absurd h
serial_given m (q ∷ qs) (y ∷ ys) h g =
    given_append m y (flat_map (λ p. p) ys) (answered_given m q.operations y h.0 (front_answered m q.operations (all_operations qs) g))
    (subst (λ z. AreSerialWhereGiven z ys) (sym (left_given m q.operations y h.0))
    (serial_given (map_left m q.operations) qs ys h.1 (back_answered m q.operations (all_operations qs) g)))

-- Where the programs of the run are serializable in commit order, so are those that were given.
pub given_serial : (p : Protocol) (opening : Map) (lines : List Line) → deviation p (at_start opening) lines ≡ None → AreSerial opening (programs (run p (start opening) (steps_in p (at_start opening) lines)).history)
    → AreSerialWhereGiven opening (given_programs lines)
given_serial p opening lines none serial =
    let events = steps_in p (at_start opening) lines in
    let logs = log_of_run p opening events in
    let at_first : IsGivenOf (start opening) no_log no_tales = record { tales = λ u r. (tt, refl); committed = tt } in
    serial_given opening (log_run p (start opening) no_log events).committed (given_programs lines) (lines_given p (at_start opening) lines no_log no_tales none at_first)
    (subst (λ qs. AreSerial opening qs) (sym logs.committed) serial)
