-- What is told of the steps that weren't done.
use Rattle.std.proofs.Common.{◌≡◌, ℕ, ◌+◌, ◌≤◌, Bool, true, false, Result, Ok, Err, OnOk, IfOk, IfErr, List, [], ◌∷◌, ◌++◌, Option, Some, None, All, refl, ap, sym, ◌∙◌, subst, map, length, length-append, append-nil, append_assoc, arith}
use Rattle.std.proofs.lemmas.List.Elements.{All-weaker, All-push}
use Rattle.std.proofs.lemmas.List.{map-append, length-map}
use mathlib.Core.List.{IsPrefix}
use Rattle.kr_model.specs.declared.Op.{Op}
use Rattle.kr_model.specs.declared.Reply.{Reply}
use Rattle.kr_model.specs.declared.Reply.TheVariants as reply
use Rattle.kr_model.specs.Protocol.{Protocol}
use Rattle.kr_model.specs.Map.{Map}
use Rattle.kr_model.specs.Step.{step}
use Rattle.kr_deadlock.specs.Waits.{IsCycle}
use Rattle.kr_records.specs.declared.name.Entry.{Entry}
use Rattle.kr_records.specs.Histories.{event, events_with_replies}
use Rattle.kr_records.specs.Waits.{in_the_way, blockers_now}
use Rattle.kr_records.specs.Faults.{is_of_try, is_blocked}
use Rattle.kr_records.specs.Seats.{Held, Shows, IsRefused, IsDeadlock, SeesFault, ToldFault}
use Rattle.kr_records.specs.declared.faults.Receipt.{Receipt}
use Rattle.kr_records.specs.declared.faults.EngineFault.{EngineFault}
use Rattle.kr_records.specs.declared.faults.EngineFault.TheVariants as fault
use Rattle.kr_script.specs.declared.not_done.WhyNotDone.TheVariants.{Deadlock, Refused}
use Rattle.kr_script.specs.declared.not_done.StepFault.{StepFault}
use Rattle.kr_workers.specs.declared.left_out.LeftOut.{LeftOut}
use Rattle.kr_workers.specs.Placed.{IsPast, IsUpTo}
use Rattle.kr_workers.specs.Waits.{is_blocked_reply}
use Rattle.kr_threads.specs.Told.{IsCaused, IsToldAt, IsLeftOut, AreTold, IsNext, Working, IsWorker}

some_same : {A : Type 0} (a b : A) → Some a ≡ Some b → a ≡ b
some_same a b is = cc (is)

prefix_self : {A : Type 0} (xs : List A) → IsPrefix xs xs
prefix_self xs = ([], append-nil xs)

pub prefix_more : {A : Type 0} (xs ys zs : List A) → IsPrefix xs ys → IsPrefix ys zs → IsPrefix xs zs
prefix_more xs ys zs p q = (p.0 ++ q.0, sym (append_assoc xs p.0 q.0) ∙ ap (λ l. l ++ q.0) p.1 ∙ q.1)

prefix_map : {A B : Type 0} (f : A → B) (xs ys : List A) → IsPrefix xs ys → IsPrefix (map f xs) (map f ys)
prefix_map f xs ys p = (map f p.0, sym (map-append f xs p.0) ∙ ap (map f) p.1)

-- A fault that isn't of a blocked step has no reply that says so.
not_blocked : (r : Reply) → is_blocked (fault.Refused r) ≡ false → is_blocked_reply r ≡ false
not_blocked (reply.Found v) is = refl
not_blocked reply.None is = refl
not_blocked (reply.Going k) is = refl
not_blocked (reply.Rows rows) is = refl
not_blocked reply.Done is = refl
not_blocked reply.Duplicate is = refl
not_blocked (reply.Deleted v) is = refl
not_blocked reply.Absent is = refl
not_blocked (reply.Updated v) is = refl
not_blocked reply.Committed is = refl
not_blocked reply.Aborted is = refl
not_blocked (reply.Undone n) is = refl
not_blocked (reply.Blocked us) is = is
not_blocked (reply.Refused why) is = refl

-- A refusal has its cause at the end of what the seat then has seen.
pub told_refused : (p : Protocol) (opening : Map) (old new : Held) (o : Op) (r : Reply) (txn n : ℕ) → old.speaks ≡ Some txn → is_blocked (fault.Refused r) ≡ false → IsRefused p opening old new o r
    → IsCaused p opening (events_with_replies new.view) (record { txn = txn; step = n; op = o; cause = Refused r })
told_refused p opening old new o r txn n speaks free h = record {
  state = h.state;
  run = h.run.run;
  cause = (h.reply_is ∙ ap (λ (t : ℕ). (step p h.state t o).0) (some_same h.txn txn (sym h.speaks ∙ speaks)), (h.not_granted, not_blocked r free));
}

-- So has a deadlock.
pub told_deadlock : (p : Protocol) (opening : Map) (old new : Held) (o : Op) (cycle : List ℕ) (txn n : ℕ) → old.speaks ≡ Some txn → IsDeadlock p opening old new o cycle
    → IsCaused p opening (events_with_replies new.view) (record { txn = txn; step = n; op = o; cause = Deadlock cycle })
told_deadlock p opening old new o cycle txn n speaks h = record {
  state = h.state;
  run = h.run.run;
  cause = (h.waiting, subst (λ (t : ℕ). IsCycle (blockers_now (in_the_way p h.state) (event t o ∷ h.waiting)) t cycle) (some_same h.txn txn (sym h.speaks ∙ speaks)) h.is_cycle);
}

-- What was told stays told.
pub told_more : (p : Protocol) (opening : Map) (es es' : List Entry) (last next : Option ℕ) (f : StepFault) → IsPrefix es es' → IsToldAt p opening (events_with_replies es) last next f → IsToldAt p opening (events_with_replies es') last next f
told_more p opening es es' last next f more t = record {
  before = t.before;
  begins = prefix_more t.before (events_with_replies es) (events_with_replies es') t.begins (prefix_map _ es es' more);
  caused = t.caused;
  past = t.past;
  up_to = t.up_to;
}

recent_more : (p : Protocol) (opening : Map) (es es' : List Entry) (last next : Option ℕ) (fs : List StepFault) → IsPrefix es es' → All (IsToldAt p opening (events_with_replies es) last next) fs → All (IsToldAt p opening (events_with_replies es') last next) fs
recent_more p opening es es' last next fs more h =
    All-weaker (IsToldAt p opening (events_with_replies es) last next) (IsToldAt p opening (events_with_replies es') last next) (λ f t. told_more p opening es es' last next f more t) fs h

left_out_more : (p : Protocol) (opening : Map) (es es' : List Entry) (ls : List LeftOut) → IsPrefix es es' → AreTold p opening es ls → AreTold p opening es' ls
left_out_more p opening es es' ls more h =
    All-weaker (IsLeftOut p opening (events_with_replies es)) (IsLeftOut p opening (events_with_replies es')) (λ l t. told_more p opening es es' l.last l.next l.fault more t) ls h

past_more : (es es' : List Entry) (k : Option ℕ) → IsPrefix es es' → IsPast (events_with_replies es) k → IsPast (events_with_replies es') k
past_more es es' None more h = h
past_more es es' (Some k) more h =
    let long : length (events_with_replies es') ≡ length es' = length-map es' _ in
    let short : length (events_with_replies es) ≡ length es = length-map es _ in
    let whole : length es' ≡ length es + length more.0 = ap length (sym more.1) ∙ length-append es more.0 in
    omega (arith, h)

-- What a seat has seen is at least as long as a prefix of it.
prefix_fits : {A : Type 0} (xs ys : List A) → IsPrefix xs ys → length xs ≤ length ys
prefix_fits xs ys p = let whole : length ys ≡ length xs + length p.0 = ap length (sym p.1) ∙ length-append xs p.0 in omega arith

-- The recent steps that were left out come before the next one that is done.
up_to_next : (p : Protocol) (opening : Map) (es : List Entry) (last : Option ℕ) (place : ℕ) (f : StepFault) → length es ≤ place → IsToldAt p opening (events_with_replies es) last None f → IsToldAt p opening (events_with_replies es) last (Some place) f
up_to_next p opening es last place f after t = record {
  before = t.before;
  begins = t.begins;
  caused = t.caused;
  past = t.past;
  up_to =
      let fits : length t.before ≤ length (events_with_replies es) = prefix_fits t.before (events_with_replies es) t.begins in
      let long : length (events_with_replies es) ≡ length es = length-map es _ in
      omega arith;
}

recent_up_to_next : (p : Protocol) (opening : Map) (es : List Entry) (last : Option ℕ) (place : ℕ) (fs : List StepFault) → length es ≤ place → All (IsToldAt p opening (events_with_replies es) last None) fs → All (IsToldAt p opening (events_with_replies es) last (Some place)) fs
recent_up_to_next p opening es last place fs after h =
    All-weaker (IsToldAt p opening (events_with_replies es) last None) (IsToldAt p opening (events_with_replies es) last (Some place)) (λ f t. up_to_next p opening es last place f after t) fs h

-- A worker whose seat has seen more.
pub worker_more : (p : Protocol) (opening : Map) (w : Working) (seat : Held) → IsPrefix w.seat.view seat.view → IsWorker p opening w → IsWorker p opening (record w { seat = seat })
worker_more p opening w seat more h = record {
  last = past_more w.seat.view seat.view w.last more h.last;
  recent = recent_more p opening w.seat.view seat.view w.last w.passed w.recent more h.recent;
  passed = past_more w.seat.view seat.view w.passed more h.passed;
  left_out = left_out_more p opening w.seat.view seat.view w.left_out more h.left_out;
}

-- A worker whose transaction did a step at this place.
pub worker_next : (p : Protocol) (opening : Map) (w : Working) (seat : Held) (place : ℕ) → IsPrefix w.seat.view seat.view → IsNext w.seat.view seat.view place → w.passed ≡ None → IsWorker p opening w → IsWorker p opening (record w { seat = seat; passed = Some place })
worker_next p opening w seat place more next none h = record {
  last = past_more w.seat.view seat.view w.last more h.last;
  recent =
      recent_more p opening w.seat.view seat.view w.last (Some place) w.recent more
      (recent_up_to_next p opening w.seat.view w.last place w.recent next.after (subst (λ (k : Option ℕ). All (IsToldAt p opening (events_with_replies w.seat.view) w.last k) w.recent) none h.recent));
  passed = let long : length (events_with_replies seat.view) ≡ length seat.view = length-map seat.view _ in let within = next.within in omega arith;
  left_out = left_out_more p opening w.seat.view seat.view w.left_out more h.left_out;
}

-- One step more that was left out.
pub worker_note : (p : Protocol) (opening : Map) (w : Working) (recent : List StepFault) (f : StepFault) → recent ≡ w.recent ++ f ∷ [] → w.passed ≡ None → IsCaused p opening (events_with_replies w.seat.view) f → IsWorker p opening w → IsWorker p opening (record w { recent = recent })
worker_note p opening w recent f is none caused h = record {
  last = h.last;
  recent =
      subst (λ (fs : List StepFault). All (IsToldAt p opening (events_with_replies w.seat.view) w.last w.passed) fs) (sym is)
      (All-push (IsToldAt p opening (events_with_replies w.seat.view) w.last w.passed) w.recent f h.recent (record {
        before = events_with_replies w.seat.view;
        begins = prefix_self (events_with_replies w.seat.view);
        caused = caused;
        past = h.last;
        up_to = subst (λ (k : Option ℕ). IsUpTo (events_with_replies w.seat.view) k) (sym none) tt;
      }));
  passed = h.passed;
  left_out = h.left_out;
}

-- What a receipt shows is next.
shows_next : (p : Protocol) (opening : Map) (old new : Held) (o : Op) (r : Receipt) → Shows p opening old new o r → IsNext old.view new.view r.place
shows_next p opening old new o r s =
    let place : r.place ≡ length (old.view ++ s.between) = s.place in
    let front : length (old.view ++ s.between) ≡ length old.view + length s.between = length-append old.view s.between in
    let whole : length new.view ≡ length (old.view ++ s.between) + 1 = ap length s.view ∙ length-append (old.view ++ s.between) _ in
    record { after = omega arith; within = omega arith }

pub next_shown : (p : Protocol) (opening : Map) (old new : Held) (o : Op) (result : Result Receipt EngineFault) → IfOk result (λ r. Shows p opening old new o r) → IfOk result (λ r. IsNext old.view new.view r.place)
next_shown p opening old new o (Ok r) s = shows_next p opening old new o r s
next_shown p opening old new o (Err f) s = tt

-- And where the seat had seen more before.
pub next_after : (p : Protocol) (opening : Map) (old mid new : Held) (o : Op) (result : Result Receipt EngineFault) → IsPrefix old.view mid.view → IfOk result (λ r. Shows p opening mid new o r) → IfOk result (λ r. IsNext old.view new.view r.place)
next_after p opening old mid new o (Ok r) more s =
    let fits : length old.view ≤ length mid.view = prefix_fits old.view mid.view more in
    let next = shows_next p opening mid new o r s in
    let after = next.after in
    let within = next.within in
    record { after = omega arith; within = omega arith }
next_after p opening old mid new o (Err f) more s = tt

-- A seat that is as it was has seen no more.
seen_no_more : (old new : Held) → new ≡ old → new ≡ record old { view = new.view }
seen_no_more old new is = is ∙ ap (λ (l : List Entry). record old { view = l }) (sym (ap (λ (h : Held). h.view) is))

-- What an attempt's fault tells, a call's tells.
pub told_at_once : (p : Protocol) (opening : Map) (old new : Held) (o : Op) (f : EngineFault) → is_of_try f ≡ true → SeesFault p opening old new o f → ToldFault p opening old new o f
told_at_once p opening old new o (fault.Refused r) of h = h
told_at_once p opening old new o (fault.Deadlock cycle) of h = absurd (cc (of))
told_at_once p opening old new o fault.Open of h = seen_no_more old new h
told_at_once p opening old new o fault.Taken of h = seen_no_more old new h
told_at_once p opening old new o fault.NotBegun of h = seen_no_more old new h
told_at_once p opening old new o fault.RowFull of h = seen_no_more old new h
told_at_once p opening old new o fault.Memory of h = seen_no_more old new h
told_at_once p opening old new o fault.PlaceTaken of h = seen_no_more old new h

-- What has changed since a refusal has changed since before it.
changed_since : (p : Protocol) (opening : Map) (old mid new : Held) (o : Op) (r : Reply) → IsRefused p opening old mid o r → new ≡ record mid { view = new.view } → new ≡ record old { view = new.view }
changed_since p opening old mid new o r h is = is ∙ ap (λ (m : Held). record m { view = new.view }) h.others

-- What a call's fault tells that follows a refusal, it tells of both.
told_after : (p : Protocol) (opening : Map) (old mid new : Held) (o : Op) (r : Reply) (f : EngineFault) → IsRefused p opening old mid o r → ToldFault p opening mid new o f → ToldFault p opening old new o f
told_after p opening old mid new o r (fault.Refused s) h t = record {
  state = t.state;
  txn = t.txn;
  run = t.run;
  begins = prefix_more old.view mid.view new.view h.begins t.begins;
  speaks = sym (ap (λ (m : Held). m.speaks) h.others) ∙ t.speaks;
  reply_is = t.reply_is;
  not_granted = t.not_granted;
  others = changed_since p opening old mid new o r h t.others;
}
told_after p opening old mid new o r (fault.Deadlock cycle) h t = record {
  state = t.state;
  txn = t.txn;
  waiting = t.waiting;
  run = t.run;
  begins = prefix_more old.view mid.view new.view h.begins t.begins;
  speaks = sym (ap (λ (m : Held). m.speaks) h.others) ∙ t.speaks;
  is_cycle = t.is_cycle;
  others = changed_since p opening old mid new o r h t.others;
}
told_after p opening old mid new o r fault.Open h t = changed_since p opening old mid new o r h t
told_after p opening old mid new o r fault.Taken h t = changed_since p opening old mid new o r h t
told_after p opening old mid new o r fault.NotBegun h t = changed_since p opening old mid new o r h t
told_after p opening old mid new o r fault.RowFull h t = changed_since p opening old mid new o r h t
told_after p opening old mid new o r fault.Memory h t = changed_since p opening old mid new o r h t
told_after p opening old mid new o r fault.PlaceTaken h t = changed_since p opening old mid new o r h t

-- So it does where an answer came before it that the step is blocked.
blocked_first : (p : Protocol) (opening : Map) (old mid new : Held) (o : Op) (first : Result Receipt EngineFault) (blocked : Bool) (f : EngineFault) → blocked ≡ true → OnOk first (blocked ≡ false) → IfErr first (λ e. blocked ≡ is_blocked e)
    → IfErr first (λ e. SeesFault p opening old mid o e) → ToldFault p opening mid new o f → ToldFault p opening old new o f
blocked_first p opening old mid new o (Ok r) blocked f is_so unless_ok by_fault h t = absurd (cc (is_so, unless_ok))
blocked_first p opening old mid new o (Err (fault.Refused r)) blocked f is_so unless_ok by_fault h t = told_after p opening old mid new o r f h t
blocked_first p opening old mid new o (Err (fault.Deadlock cycle)) blocked f is_so unless_ok by_fault h t = absurd (cc (is_so, by_fault))
blocked_first p opening old mid new o (Err fault.Open) blocked f is_so unless_ok by_fault h t = absurd (cc (is_so, by_fault))
blocked_first p opening old mid new o (Err fault.Taken) blocked f is_so unless_ok by_fault h t = absurd (cc (is_so, by_fault))
blocked_first p opening old mid new o (Err fault.NotBegun) blocked f is_so unless_ok by_fault h t = absurd (cc (is_so, by_fault))
blocked_first p opening old mid new o (Err fault.RowFull) blocked f is_so unless_ok by_fault h t = absurd (cc (is_so, by_fault))
blocked_first p opening old mid new o (Err fault.Memory) blocked f is_so unless_ok by_fault h t = absurd (cc (is_so, by_fault))
blocked_first p opening old mid new o (Err fault.PlaceTaken) blocked f is_so unless_ok by_fault h t = absurd (cc (is_so, by_fault))

-- The same of the answers of both.
pub told_after_blocked : (p : Protocol) (opening : Map) (old mid new : Held) (o : Op) (first second : Result Receipt EngineFault) (blocked : Bool) → blocked ≡ true → OnOk first (blocked ≡ false) → IfErr first (λ e. blocked ≡ is_blocked e)
    → IfErr first (λ e. SeesFault p opening old mid o e) → IfErr second (λ f. ToldFault p opening mid new o f) → IfErr second (λ f. ToldFault p opening old new o f)
told_after_blocked p opening old mid new o first (Ok r) blocked is_so unless_ok by_fault h t = t
told_after_blocked p opening old mid new o first (Err f) blocked is_so unless_ok by_fault h t = blocked_first p opening old mid new o first blocked f is_so unless_ok by_fault h t
