-- What was given in lines beside which a state stands.
use Rattle.std.specs.Prelude.{◌≡◌, ℕ, zero, suc, ◌-◌, ◌<◌, ◌≤◌, Bool, true, false, ◌&&◌, ◌==◌, nat_lt, min, max, if◌then◌else◌, List, [], ◌∷◌, ◌++◌, map, reverse, Option, Some, None, refl, ◌⊎◌}
use Rattle.std.proofs.Common.{sym, ◌∙◌, ap, ap₂, subst, inl, inr, arith, append-nil}
use Rattle.std.proofs.lemmas.Bool.Decides.{nat_tests}
use Rattle.kr_model.specs.declared.Op.{Op}
use Rattle.kr_model.specs.declared.Op.TheVariants as op
use Rattle.kr_model.specs.declared.Reply.{Reply}
use Rattle.kr_model.specs.declared.Reply.TheVariants as reply
use Rattle.kr_model.specs.Covers.{is_empty}
use Rattle.kr_model.specs.Locks.{Locks}
use Rattle.kr_model.specs.Log.{Log, no_log, logged}
use Rattle.kr_model.specs.Map.{Map, IsMap}
use Rattle.kr_model.specs.Run.{programs}
use Rattle.kr_model.specs.Serial.{AreSerial}
use Rattle.kr_model.specs.State.{Scan, standing}
use Rattle.kr_model.proofs.LogReads.{event}
use Rattle.kr_ghost.specs.declared.moves.Move.{Move}
use Rattle.kr_ghost.specs.declared.moves.Move.TheVariants.{Purge}
use Rattle.kr_ghost.specs.Protocol.{GhostProtocol}
use Rattle.kr_ghost.specs.Run.{run}
use Rattle.kr_ghost.specs.State.{GhostState, opened}
use Rattle.kr_ghost.specs.Step.{Outcome, may_purge, purged, step, without_ghost}
use Rattle.kr_ghost_run.proofs.Logs.{programs_of_run}
use Rattle.kr_trace_lines.specs.declared.observed.Observed.{Observed}
use Rattle.kr_trace_lines.specs.declared.observed.Observed.TheVariants as observed
use Rattle.kr_trace_lines.specs.Fits.{fits}
use Rattle.kr_trace_follow.specs.declared.scans.Progress.{Progress}
use Rattle.kr_trace_follow.specs.Deviates.{is_queued}
use Rattle.kr_trace_follow.specs.Given.{AreSerialWhereGiven}
use Rattle.kr_trace_follow.specs.Lines.{Line}
use Rattle.kr_trace_follow.specs.Programs.{Tales, given_programs, no_tales, tales_after, tales_of}
use Rattle.kr_trace_follow.specs.Scans.{noted_after, noted_of, range_noted}
use Rattle.kr_trace_follow.specs.Steps.{queue_for, taken}
use Rattle.kr_trace_follow.specs.Upwards.{answer_upwards, line_upwards, rows_upwards, upwards}
use Rattle.kr_trace_follow.proofs.ConformLaws.{kind_fits}
use Rattle.kr_trace_follow.proofs.TaleLines.{none_of_none, same_number, taken_given}
use Rattle.kr_ghost_follow.specs.Points.{Moment, Point, Tried, ahead_of, conflicts_of, falling, first_op, goes_on, gone_on, is_falling, is_passed, is_read, is_same_range, last_of, last_tried, left_after, moment_at, more_steps, parts, point_after, read_down, read_on, tests_of, tried, unread}
use Rattle.kr_ghost_follow.specs.Reached.{Agrees, Leads, start, purge, line, all_done, all_read, done_by, moves_of}
use Rattle.kr_ghost_follow.proofs.GivenDownwards.{fell, reading_begins, turned}
use Rattle.kr_ghost_follow.proofs.GivenLogs.{log_on, log_run}
use Rattle.kr_ghost_follow.proofs.GivenScans.{IsNoted, IsSaid}
use Rattle.kr_ghost_follow.proofs.GivenSteps.{IsGivenOf, said_on, passed_given, step_given}
use Rattle.kr_ghost_follow.proofs.GivenTales.{serial_given, none_given}
use Rattle.kr_ghost_follow.proofs.PartLaws.{parts_are, parts_fall}
use Rattle.kr_ghost_follow.proofs.RunLaws.{leads_run}

-- Lines that read upwards --

going_of : (l : Line) (s : GhostState) (r : Reply) → goes_on l s r ≡ true → (k : ℕ) × (r ≡ reply.Going k)
going_of l s (reply.Going k) e = (k, refl)
going_of l s _ e = absurd (cc)

module _ (p : GhostProtocol) (l : Line) (queue : Locks) (w : Tales) (said : Op) where
  abbrev txn : ℕ
  txn = l.event.txn

  abbrev told : Observed
  told = l.observed

  abbrev tales_up : Tales
  tales_up = tales_after w txn said told

  -- The last step is the one that was given, and where somebody waits ahead of it the line says nothing.
  abbrev EndsUp : Tried → Type 0
  EndsUp z = (z.ahead ≡ [] → fits z.reply told ≡ true) × (is_empty z.ahead ≡ false → tales_up ≡ w)

  abbrev tried_at : Moment → Op → List ℕ → Tried
  tried_at m o us = record { op = o; ahead = us; reply = (step p m.state txn o).0; left = left_after p txn m o us }

  one_step : (m : Moment) (lg : Log) (o : Op) (us : List ℕ) → IsGivenOf m.state.state m.scans lg w → IsSaid said o (noted_of m.scans txn) → EndsUp (tried_at m o us)
      → IsGivenOf (left_after p txn m o us).state.state (left_after p txn m o us).scans (log_run p m.state lg (done_by txn o us)) tales_up
  one_step m lg o [] k say ends = step_given p m.state m.scans lg w txn o (step p m.state txn o).0 (step p m.state txn o).1 refl k said told say (ends.0 refl)
  one_step m lg o (u ∷ us) k say ends = subst (λ z. IsGivenOf m.state.state m.scans lg z) (sym (ends.1 refl)) k

  -- The steps behind one, for at most so many.
  abbrev Goes : ℕ → Type 0
  Goes n = (m : Moment) (lg : Log) (o : Op) → IsGivenOf m.state.state m.scans lg w → IsSaid said o (noted_of m.scans txn)
      → let z = gone_on p l queue n (tried p queue txn m o) in
      let left = z.left in
      EndsUp z → IsGivenOf left.state.state left.scans (log_run p m.state lg (all_done p l queue n (tried p queue txn m o))) tales_up

  more_gone : (n : ℕ) → Goes n → (m : Moment) (lg : Log) (o : Op) (us : List ℕ) → IsGivenOf m.state.state m.scans lg w → IsSaid said o (noted_of m.scans txn)
      → (c : Bool) → is_passed l (left_after p txn m o us).state us (step p m.state txn o).0 ≡ c
      → let z : Tried = if c then gone_on p l queue n (tried p queue txn (left_after p txn m o us) op.Go) else tried_at m o us in
      EndsUp z → IsGivenOf z.left.state.state z.left.scans (log_run p m.state lg (done_by txn o us ++ (if c then all_done p l queue n (tried p queue txn (left_after p txn m o us) op.Go) else []))) tales_up
  more_gone n on m lg o us k say false e ends =
      subst (λ z. IsGivenOf (left_after p txn m o us).state.state (left_after p txn m o us).scans (log_run p m.state lg z) tales_up) (sym (append-nil (done_by txn o us))) (one_step m lg o us k say ends)
  more_gone n on m lg o (u ∷ us) k say true e ends = absurd (cc)
  more_gone n on m lg o [] k say true e ends =
      let done : Outcome = step p m.state txn o in
      let going = going_of l done.1 done.0 e in
      let is : ◌≡◌ {A = Outcome} (reply.Going going.0, done.1) (step p m.state txn o) = ap (λ r. let it : Outcome = (r, done.1) in it) (sym going.1) in
      let passed = passed_given p m.state m.scans lg w txn o going.0 done.1 is k in
      let next : IsGivenOf done.1.state (noted_after m.scans txn o done.0) (logged lg (event txn o, done.0)) w = subst (λ r. IsGivenOf done.1.state (noted_after m.scans txn o r) (logged lg (event txn o, r)) w) (sym going.1) passed in
      let say_on : IsSaid said op.Go (noted_of (noted_after m.scans txn o done.0) txn) = subst (λ r. IsSaid said op.Go (noted_of (noted_after m.scans txn o r) txn)) (sym going.1) (said_on p m.state m.scans txn said o going.0 done.1 is say) in
      on (left_after p txn m o []) (logged lg (event txn o, done.0)) op.Go next say_on ends

  all_gone : (n : ℕ) → Goes n
  all_gone zero m lg o k say ends = one_step m lg o (ahead_of p queue txn m.state o) k say ends
  all_gone (suc n) m lg o k say ends =
      more_gone n (λ m lg o k say ends. all_gone n m lg o k say ends) m lg o (ahead_of p queue txn m.state o) k say
      (is_passed l (left_after p txn m o (ahead_of p queue txn m.state o)).state (ahead_of p queue txn m.state o) (step p m.state txn o).0) refl ends

-- Nobody waits ahead of a step that the engine doesn't block --

none_ahead : (p : GhostProtocol) (t : ℕ) (s : GhostState) (o : Op) → ahead_of p [] t s o ≡ []
none_ahead p t s o = none_of_none p.table (tests_of p t s o)

gone_ahead : (p : GhostProtocol) (l : Line) (n : ℕ) (m : Moment) (o : Op) → (gone_on p l [] n (tried p [] l.event.txn m o)).ahead ≡ []
gone_ahead p l zero m o = none_ahead p l.event.txn m.state o
gone_ahead p l (suc n) m o = by (gone_ahead p l n y.left op.Go) (is_passed l y.left.state y.ahead y.reply)
  where
    y : Tried
    y = tried p [] l.event.txn m o

    by : (gone_on p l [] n (tried p [] l.event.txn y.left op.Go)).ahead ≡ [] → (c : Bool) → (if c then gone_on p l [] n (tried p [] l.event.txn y.left op.Go) else y).ahead ≡ []
    by later true = later
    by later false = none_ahead p l.event.txn m.state o

fell_ahead : (p : GhostProtocol) (t : ℕ) (os : List Op) (y : Tried) → y.ahead ≡ [] → (read_down p [] t os y).ahead ≡ []
fell_ahead p t [] y none = none
fell_ahead p t (o ∷ os) y none = by (fell_ahead p t os next (none_ahead p t y.left.state o)) (is_read y.ahead y.reply)
  where
    next : Tried
    next = read_on p [] t y.left y.reply o

    by : (read_down p [] t os next).ahead ≡ [] → (c : Bool) → (if c then read_down p [] t os next else y).ahead ≡ []
    by later true = later
    by later false = none

last_ahead : (p : GhostProtocol) (l : Line) (m : Moment) (o : Op) → (last_of p l [] m o).ahead ≡ []
last_ahead p l m o = by (is_falling o)
  where
    by : (c : Bool) → (if c then read_down p [] l.event.txn (falling m.state o) (unread m o) else gone_on p l [] (more_steps m.scans l.event.txn o) (tried p [] l.event.txn m o)).ahead ≡ []
    by true = fell_ahead p l.event.txn (falling m.state o) (unread m o) refl
    by false = gone_ahead p l (more_steps m.scans l.event.txn o) m o

-- What a line says --

same_op : (o : Op) → is_falling o ≡ false → upwards o ≡ o
same_op (op.Scan a c) e =
    let le : a ≤ c = grind (arith, nat_tests, e) in
    ap₂ (λ u v. op.Scan u v) (let low : min a c ≡ a = omega (arith, le) in low) (let high : max a c ≡ c = omega (arith, le) in high)
same_op (op.Fetch k) e = refl
same_op (op.Insert k v) e = refl
same_op (op.Delete k) e = refl
same_op (op.Update k v) e = refl
same_op op.Go e = refl
same_op op.Commit e = refl
same_op op.Abort e = refl
same_op op.Back e = refl

same_rows : (o : Op) (rows : List (ℕ × ℕ)) → is_falling o ≡ false → rows_upwards o rows ≡ rows
same_rows (op.Scan a c) rows e = ap (λ x. if x then reverse rows else rows) e
same_rows (op.Fetch k) rows e = refl
same_rows (op.Insert k v) rows e = refl
same_rows (op.Delete k) rows e = refl
same_rows (op.Update k v) rows e = refl
same_rows op.Go rows e = refl
same_rows op.Commit rows e = refl
same_rows op.Abort rows e = refl
same_rows op.Back rows e = refl

same_answer : (o : Op) (b : Observed) → is_falling o ≡ false → answer_upwards o b ≡ b
same_answer o (observed.Rows rows) e = ap (λ z. observed.Rows z) (same_rows o rows e)
same_answer o _ e = refl

-- The first step of a line is what it says, or goes on with the scan that it says.
first_said : (c : Option Progress) (o : Op) → IsSaid o (if is_same_range (range_noted c) o then op.Go else o) c
first_said None o = inl refl
first_said (Some c) (op.Scan lo hi) = by (c.lo == lo) (c.hi == hi) refl refl
  where
    by : (x y : Bool) → (c.lo == lo) ≡ x → (c.hi == hi) ≡ y → IsSaid (op.Scan lo hi) (if x && y then op.Go else op.Scan lo hi) (Some c)
    by true true e f = inr (refl, (c, (refl, ap₂ (λ u v. op.Scan u v) (sym (same_number c.lo lo e)) (sym (same_number c.hi hi f)))))
    by true false e f = inl refl
    by false y e f = inl refl
first_said (Some c) _ = inl refl

-- A scan in progress is one upwards.
same_range_up : (was : Option Scan) (c : Option Progress) (o : Op) → IsNoted was c → is_same_range (range_noted c) o ≡ true → is_falling o ≡ false
same_range_up None None o h e = absurd (cc)
same_range_up (Some s) None o h e = absurd h
same_range_up None (Some c) o h e = absurd h
same_range_up (Some s) (Some c) (op.Scan lo hi) h e = by (c.lo == lo) (c.hi == hi) refl refl e
  where
    by : (x y : Bool) → (c.lo == lo) ≡ x → (c.hi == hi) ≡ y → (x && y) ≡ true → nat_lt hi lo ≡ false
    by true true f g e = ap₂ (λ u v. nat_lt u v) (sym (same_number c.hi hi g)) (sym (same_number c.lo lo f)) ∙ h
    by true false f g e = absurd (cc)
    by false y f g e = absurd (cc)
same_range_up (Some s) (Some c) _ h e = absurd (cc)

taken_or : (o : Op) (b : Observed) → (b ≡ observed.Aborted) ⊎ (taken o b ≡ o)
taken_or o observed.Aborted = inl refl
taken_or o _ = inr refl

-- Where the first step of a line doesn't read downwards, the line says what it said of the engine.
told_up : (was : Option Scan) (c : Option Progress) (w : Tales) (t : ℕ) (o : Op) (b : Observed) → IsNoted was c
    → is_falling (if is_same_range (range_noted c) (taken o b) then op.Go else taken o b) ≡ false → tales_after w t (upwards o) (answer_upwards o b) ≡ tales_after w t (taken o b) b
told_up was c w t o b h e = by (taken_or o b)
  where
    on : (q : Op) (d : Bool) → is_same_range (range_noted c) q ≡ d → is_falling (if d then op.Go else q) ≡ false → is_falling q ≡ false
    on q true same e = same_range_up was c q h same
    on q false same e = e

    by : (b ≡ observed.Aborted) ⊎ (taken o b ≡ o) → tales_after w t (upwards o) (answer_upwards o b) ≡ tales_after w t (taken o b) b
    by (inl is) = ap (λ z. tales_after w t (upwards o) (answer_upwards o z)) is ∙ sym (ap (λ z. tales_after w t (taken o z) z) is)
    by (inr is) =
        let up : is_falling o ≡ false = ap is_falling (sym is) ∙ on (taken o b) (is_same_range (range_noted c) (taken o b)) refl e in
        ap₂ (λ x y. tales_after w t x y) (same_op o up) (same_answer o b up) ∙ sym (taken_given w t o b)

-- One that does is the line's own.
first_down : (c : Option Progress) (o : Op) (b : Observed) → is_falling (if is_same_range (range_noted c) (taken o b) then op.Go else taken o b) ≡ true
    → ((if is_same_range (range_noted c) (taken o b) then op.Go else taken o b) ≡ o) × (is_falling o ≡ true)
first_down c o b e = by (is_same_range (range_noted c) (taken o b)) e (taken_or o b)
  where
    by : (d : Bool) → is_falling (if d then op.Go else taken o b) ≡ true → (b ≡ observed.Aborted) ⊎ (taken o b ≡ o) → ((if d then op.Go else taken o b) ≡ o) × (is_falling o ≡ true)
    by true e h = absurd (cc)
    by false e (inl is) = absurd (let no : is_falling (taken o b) ≡ false = ap (λ z. is_falling (taken o z)) is in cc)
    by false e (inr is) = (is, sym (ap is_falling is) ∙ e)

-- Who waits, waits in a queue.
no_queue : (b : Observed) (waiting : Locks) → ((named : List ℕ) × (b ≡ observed.Blocked named)) ⊎ (queue_for b waiting ≡ [])
no_queue (observed.Blocked named) waiting = inl (named, refl)
no_queue _ waiting = inr refl

down_op : (a c : ℕ) → c < a → op.Scan (min a c) (max a c) ≡ op.Scan c a
down_op a c lt = ap₂ (λ u v. op.Scan u v) (let low : min a c ≡ c = omega (arith, lt) in low) (let high : max a c ≡ a = omega (arith, lt) in high)

down_answer : (a c : ℕ) (b : Observed) → nat_lt c a ≡ true → answer_upwards (op.Scan a c) b ≡ turned b
down_answer a c (observed.Rows rows) e = ap (λ x. observed.Rows (if x then reverse rows else rows)) e
down_answer a c _ e = refl

-- A line --

module _ (p : GhostProtocol) (at : Point) (l : Line) (lg : Log) (w : Tales) (agrees : Agrees p at l) (k : IsGivenOf at.state.state at.scans lg w) where
  abbrev own : ℕ
  own = l.event.txn

  abbrev ahead : Locks
  ahead = queue_for l.observed at.waiting

  abbrev here : Moment
  here = moment_at at

  abbrev begins : Op
  begins = first_op at.scans l

  abbrev now : Tales
  now = tales_after w own (upwards l.event.op) (answer_upwards l.event.op l.observed)

  answered : (last_tried p at l).ahead ≡ [] → fits (last_tried p at l).reply l.observed ≡ true
  answered e = let y : Tried = last_tried p at l in kind_fits (conflicts_of p agrees.0 own y.left.state y.op) y.ahead y.reply l.observed agrees.1 (ap (λ us. is_queued us y.reply) e)

  waits : is_empty (last_tried p at l).ahead ≡ false → now ≡ w
  waits isnt = by (no_queue l.observed at.waiting)
    where
      by : ((named : List ℕ) × (l.observed ≡ observed.Blocked named)) ⊎ (queue_for l.observed at.waiting ≡ []) → now ≡ w
      by (inl h) = ap (λ c. tales_after w own (upwards l.event.op) (answer_upwards l.event.op c)) h.1
      by (inr none) = absurd (let yes : is_empty (last_tried p at l).ahead ≡ true = ap (λ q. is_empty (last_of p l q here begins).ahead) none ∙ ap is_empty (last_ahead p l here begins) in cc)

  abbrev Down : Op → Type 0
  Down o =
      let z : Tried = read_down p ahead own (falling here.state o) (unread here o) in
      (z.ahead ≡ [] → fits z.reply l.observed ≡ true) → (is_empty z.ahead ≡ false → now ≡ w)
      → IsGivenOf z.left.state.state z.left.scans (log_run p at.state lg (all_read p ahead own (falling here.state o) (unread here o))) now

  down_given : (o : Op) → l.event.op ≡ o → is_falling o ≡ true → Down o
  down_given (op.Scan a c) is falls = λ fit wait. subst (λ z. IsGivenOf down.left.state.state down.left.scans (log_run p at.state lg (all_read p ahead own (falling here.state (op.Scan a c)) (unread here (op.Scan a c)))) z) (sym told)
      (fell p ahead w own c a le l.observed (falling here.state (op.Scan a c)) (suc a) here lg [] (op.Scan a c)
      (parts_fall here.state c a (parts here.state (a - c) c a) (parts_are here.state (a - c) c a le (omega arith))) (omega arith) (reading_begins lg here w own a k)
      (fit, λ isnt. sym told ∙ wait isnt))
    where
      lt : c < a
      lt = grind (arith, nat_tests, falls)

      le : c ≤ a
      le = omega (arith, lt)

      down : Tried
      down = read_down p ahead own (falling here.state (op.Scan a c)) (unread here (op.Scan a c))

      told : now ≡ tales_after w own (op.Scan c a) (turned l.observed)
      told =
          ap (λ q. tales_after w own (upwards q) (answer_upwards q l.observed)) is
          ∙ ap₂ (λ x y. tales_after w own x y) (down_op a c lt) (down_answer a c l.observed falls)
  down_given (op.Fetch _) is falls = absurd (cc)
  down_given (op.Insert _ _) is falls = absurd (cc)
  down_given (op.Delete _) is falls = absurd (cc)
  down_given (op.Update _ _) is falls = absurd (cc)
  down_given op.Go is falls = absurd (cc)
  down_given op.Commit is falls = absurd (cc)
  down_given op.Abort is falls = absurd (cc)
  down_given op.Back is falls = absurd (cc)

  line_by : (c : Bool) → is_falling begins ≡ c
      → let z : Tried = if c then read_down p ahead own (falling here.state begins) (unread here begins) else gone_on p l ahead (more_steps here.scans own begins) (tried p ahead own here begins) in
      (z.ahead ≡ [] → fits z.reply l.observed ≡ true) → (is_empty z.ahead ≡ false → now ≡ w)
      → IsGivenOf z.left.state.state z.left.scans
      (log_run p at.state lg (if c then all_read p ahead own (falling here.state begins) (unread here begins) else all_done p l ahead (more_steps here.scans own begins) (tried p ahead own here begins))) now
  line_by true e fit wait =
      let down = first_down (noted_of at.scans own) l.event.op l.observed e in
      subst (λ o. Down o) (sym down.0) (down_given l.event.op refl down.1) fit wait
  line_by false e fit wait =
      let last : Tried = gone_on p l ahead (more_steps here.scans own begins) (tried p ahead own here begins) in
      let told = told_up (standing at.state.state own).scan (noted_of at.scans own) w own l.event.op l.observed (k.noted own) e in
      subst (λ z. IsGivenOf last.left.state.state last.left.scans (log_run p at.state lg (all_done p l ahead (more_steps here.scans own begins) (tried p ahead own here begins))) z) (sym told)
      (all_gone p l ahead w (taken l.event.op l.observed) (more_steps here.scans own begins) here lg begins k (first_said (noted_of at.scans own) (taken l.event.op l.observed))
      (fit, λ isnt. sym told ∙ wait isnt))

  line_given : let after : Point = point_after p at l in IsGivenOf after.state.state after.scans (log_run p at.state lg (moves_of p at l)) now
  line_given = line_by (is_falling begins) refl answered waits

-- Lines --

purge_given : (p : GhostProtocol) (s : GhostState) (n : ℕ) (xs : List Progress) (lg : Log) (w : Tales) → IsGivenOf s.state xs lg w → IsGivenOf (purged p s n).state xs lg w
purge_given p s n xs lg w k = by (may_purge p s n)
  where
    by : (c : Bool) → IsGivenOf (if c then without_ghost p s n else s).state xs lg w
    by true = record { noted = k.noted; tales = k.tales; committed = k.committed }
    by false = k

told_more : (w : Tales) (lines : List Line) (l : Line)
    → tales_of w (map line_upwards (lines ++ l ∷ [])) ≡ tales_after (tales_of w (map line_upwards lines)) l.event.txn (upwards l.event.op) (answer_upwards l.event.op l.observed)
told_more w [] l = refl
told_more w (x ∷ xs) l = told_more (tales_after w x.event.txn (upwards x.event.op) (answer_upwards x.event.op x.observed)) xs l

pub leads_given : (p : GhostProtocol) (opening : Map) (lines : List Line) (moves : List Move) (at : Point) → Leads p opening lines moves at
    → IsGivenOf at.state.state at.scans (log_run p (opened opening) no_log moves) (tales_of no_tales (map line_upwards lines))
leads_given p opening _ _ _ start = record { noted = λ u. tt; tales = λ u r. (none_given, refl); committed = tt }
leads_given p opening _ _ _ (purge n lines moves at h) =
    let w = tales_of no_tales (map line_upwards lines) in
    subst (λ z. IsGivenOf (purged p at.state n).state at.scans z w) (sym (log_on p (opened opening) no_log moves (Purge n ∷ [])))
    (purge_given p at.state n at.scans (log_run p (opened opening) no_log moves) w (leads_given p opening lines moves at h))
leads_given p opening _ _ _ (line l lines moves at h agrees) =
    let w = tales_of no_tales (map line_upwards lines) in
    let lg = log_run p (opened opening) no_log moves in
    let after : Point = point_after p at l in
    let logs = log_on p (opened opening) no_log moves (moves_of p at l) ∙ ap (λ s. log_run p s lg (moves_of p at l)) (leads_run p opening lines moves at h) in
    subst (λ z. IsGivenOf after.state.state after.scans (log_run p (opened opening) no_log (moves ++ moves_of p at l)) z) (sym (told_more no_tales lines l))
    (subst (λ z. IsGivenOf after.state.state after.scans z (tales_after w l.event.txn (upwards l.event.op) (answer_upwards l.event.op l.observed))) (sym logs)
    (line_given p at l lg w agrees (leads_given p opening lines moves at h)))

-- Where the programs of the run are serializable in commit order, so are those that were given.
pub given_serial : (p : GhostProtocol) (opening : Map) → IsMap opening → (lines : List Line) (moves : List Move) (at : Point) → Leads p opening lines moves at
    → AreSerial opening (let r = run p (opened opening) moves in programs r.history) → AreSerialWhereGiven opening (given_programs (map line_upwards lines))
given_serial p opening sorted lines moves at h serial =
    let k = leads_given p opening lines moves at h in
    let lg : Log = log_run p (opened opening) no_log moves in
    serial_given opening lg.committed (given_programs (map line_upwards lines)) sorted k.committed (subst (λ qs. AreSerial opening qs) (sym (programs_of_run p opening moves)) serial)
