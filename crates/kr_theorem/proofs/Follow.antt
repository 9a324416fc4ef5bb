-- A schedule followed under a protocol that grants each of its steps: the history is the same under all of them, whatever they request.
use Rattle.std.specs.Prelude.{◌≡◌, ℕ, Bool, true, false, List, [], ◌∷◌, ◌++◌, Option, Some, None, is_some, refl}
use Rattle.std.specs.List.{list_all}
use Rattle.std.proofs.lemmas.List.Sums.{AllPass-from_list_all}
use Rattle.std.proofs.Common.{sym, ◌∙◌, ap, subst}
use Rattle.kr_model.specs.declared.Step.{Step}
use Rattle.kr_model.specs.declared.Step.TheVariants as attempt
use Rattle.kr_model.specs.declared.Op.{Op}
use Rattle.kr_model.specs.declared.Op.TheVariants as op
use Rattle.kr_model.specs.declared.Event.{Event}
use Rattle.kr_model.specs.declared.Refusal.{Refusal}
use Rattle.kr_model.specs.Protocol.{Protocol, IsLawful}
use Rattle.kr_model.specs.Map.{Map, Changes, IsMap}
use Rattle.kr_model.specs.Locks.{Locks, blockers, kept, release}
use Rattle.kr_model.specs.Plan.{Access, access_of, plan_by, requests}
use Rattle.kr_model.specs.State.{Scan, State, start, standing}
use Rattle.kr_model.specs.Step.{Effect, Outcome, refusal_of, name_to_look, granted_or_blocked, attempted, attempted_scan, one_taken_back, performed, unless_refused, step}
use Rattle.kr_model.specs.Run.{Entry, Program, run, replies_of, programs, is_granted}
use Rattle.kr_model.specs.Serial.{AreSerial}
use Rattle.kr_model.specs.Difference.{first_difference}
use Rattle.kr_model.specs.WellFormed.{IsState}
use Rattle.kr_model.proofs.SerialLaws.{none_if_serial}
use Rattle.kr_model.proofs.WellFormedLaws.{start_is_state, step_keeps_state}
use Rattle.kr_theorem.specs.Wrong.{GoesWrong}
use Rattle.kr_theorem.proofs.Recorded.{Tells, marked, tells_attempt, tells_release}
use Rattle.kr_theorem.proofs.Unblocked.{Meeting, Passes, met_by, passes_first, passes_rest, unblocked}

-- The protocol that requests nothing, with updates or without.
abbrev pub asks_nothing : Bool → Protocol
asks_nothing u = record { count = 0; ok = λ q h. true; convert = λ h q. h; ask = λ r s o. None; updates = u }

-- The state with these locks.
abbrev pub with_locks : State → Locks → State
with_locks b h = record { map = b.map; locks = h; ended = b.ended; active = b.active }

-- What an operation does with locks --

-- It attempts something, ends its transaction, or leaves the locks as they are; that doesn't depend on the protocol.
pub data Deed : Type 0 where
  attempts : Access → Deed
  ends : Deed
  leaves : Deed

-- A scan's step.
abbrev pub scan_deed : Map → Option Scan → Deed
scan_deed m None = leaves
scan_deed m (Some c) = attempts (access_of m (attempt.Look (name_to_look m c) c.hi))

-- What an operation does that isn't refused.
abbrev pub deed_of : State → ℕ → Op → Deed
deed_of b t (op.Fetch k) = attempts (access_of b.map (attempt.Fetch k))
deed_of b t (op.Scan lo hi) = scan_deed b.map (Some (record { lo = lo; hi = hi; rows = [] }))
deed_of b t op.Go = scan_deed b.map (standing b t).scan
deed_of b t (op.Insert k v) = attempts (access_of b.map (attempt.Insert k))
deed_of b t (op.Delete k) = attempts (access_of b.map (attempt.Delete k))
deed_of b t (op.Update k v) = attempts (access_of b.map (attempt.Update k))
deed_of b t op.Commit = ends
deed_of b t op.Abort = ends
deed_of b t op.Back = leaves

-- A refusal leaves the locks as they are.
abbrev pub deed_if : State → ℕ → Op → Option Refusal → Deed
deed_if b t o (Some r) = leaves
deed_if b t o None = deed_of b t o

-- What an operation does.
abbrev pub deed_at : Bool → State → ℕ → Op → Deed
deed_at u b t o = deed_if b t o (refusal_of (asks_nothing u) b t o)

-- The locks after it.
abbrev pub locks_after : Protocol → Locks → ℕ → Deed → Locks
locks_after p h t (attempts a) = kept p h t (requests (plan_by p h t a))
locks_after p h t ends = release h t
locks_after p h t leaves = h

-- The record of the locks after it.
abbrev pub record_after : Protocol → Locks → ℕ → Deed → Locks
record_after p xs t (attempts a) = marked p xs t a
record_after p xs t ends = release xs t
record_after p xs t leaves = xs

-- The locks of others that it meets.
abbrev pub met_in : Protocol → Locks → ℕ → Deed → List Meeting
met_in p xs t (attempts a) = met_by p xs t a
met_in p xs t ends = []
met_in p xs t leaves = []

-- Nobody blocks it.
abbrev pub Granted : Protocol → Locks → ℕ → Deed → Type 0
Granted p h t (attempts a) = blockers p h t (requests (plan_by p h t a)) ≡ []
Granted p h t ends = Unit {0}
Granted p h t leaves = Unit {0}

-- The record still tells each mode after it.
tells_deed : (p : Protocol) (xs h : Locks) (t : ℕ) (d : Deed) → Tells xs h → Tells (record_after p xs t d) (locks_after p h t d)
tells_deed p xs h t (attempts a) tells = tells_attempt p xs h t a tells
tells_deed p xs h t ends tells = tells_release xs h t tells
tells_deed p xs h t leaves tells = tells

-- Nobody blocks it where it passes the locks that it meets.
granted_deed : (p : Protocol) → IsLawful p → (b : State) (xs h : Locks) (t : ℕ) (d : Deed) → Tells xs h → IsState p (with_locks b h) → Passes p (met_in p xs t d) → Granted p h t d
granted_deed p laws b xs h t (attempts a) tells k pass = unblocked p laws xs h t a tells k.within pass
granted_deed p laws b xs h t ends tells k pass = tt
granted_deed p laws b xs h t leaves tells k pass = tt

-- One step --

-- What a step does where nothing is requested.
abbrev pub bare : Bool → State → ℕ → Op → Outcome
bare u b t o = step (asks_nothing u) (with_locks b []) t o

-- The same with these locks.
abbrev pub locked : Outcome → Locks → Outcome
locked r h = (r.0, with_locks r.1 h)

-- A step that nobody blocks does the same under p, but for the locks.
module _ (p : Protocol) (b : State) (h : Locks) (t : ℕ) where
  attempt_alike : (a : Step) (e : Effect) → Granted p h t (attempts (access_of b.map a))
      → attempted p (with_locks b h) t a e ≡ locked (attempted (asks_nothing p.updates) (with_locks b []) t a e) (locks_after p h t (attempts (access_of b.map a)))
  attempt_alike a e granted = ap (granted_or_blocked p (with_locks b h) t (requests (plan_by p h t (access_of b.map a))) e) granted

  scan_alike : (c : Option Scan) → Granted p h t (scan_deed b.map c)
      → attempted_scan p (with_locks b h) t c ≡ locked (attempted_scan (asks_nothing p.updates) (with_locks b []) t c) (locks_after p h t (scan_deed b.map c))
  scan_alike None granted = refl
  scan_alike (Some c) granted = attempt_alike (attempt.Look (name_to_look b.map c) c.hi) _ granted

  back_alike : (cs : Changes) → one_taken_back (with_locks b h) t cs ≡ locked (one_taken_back (with_locks b []) t cs) h
  back_alike [] = refl
  back_alike (c ∷ cs) = refl

  performed_alike : (o : Op) → Granted p h t (deed_of b t o) → performed p (with_locks b h) t o ≡ locked (performed (asks_nothing p.updates) (with_locks b []) t o) (locks_after p h t (deed_of b t o))
  performed_alike (op.Fetch k) granted = attempt_alike (attempt.Fetch k) _ granted
  performed_alike (op.Scan lo hi) granted = scan_alike (Some (record { lo = lo; hi = hi; rows = [] })) granted
  performed_alike op.Go granted = scan_alike (standing b t).scan granted
  performed_alike (op.Insert k v) granted = attempt_alike (attempt.Insert k) _ granted
  performed_alike (op.Delete k) granted = attempt_alike (attempt.Delete k) _ granted
  performed_alike (op.Update k v) granted = attempt_alike (attempt.Update k) _ granted
  performed_alike op.Commit granted = refl
  performed_alike op.Abort granted = refl
  performed_alike op.Back granted = back_alike (standing b t).changes

  unless_alike : (o : Op) (r : Option Refusal) → Granted p h t (deed_if b t o r)
      → unless_refused p (with_locks b h) t o r ≡ locked (unless_refused (asks_nothing p.updates) (with_locks b []) t o r) (locks_after p h t (deed_if b t o r))
  unless_alike o (Some r) granted = refl
  unless_alike o None granted = performed_alike o granted

  step_alike : (o : Op) → Granted p h t (deed_at p.updates b t o) → step p (with_locks b h) t o ≡ locked (bare p.updates b t o) (locks_after p h t (deed_at p.updates b t o))
  step_alike o granted = unless_alike o (refusal_of (asks_nothing p.updates) b t o) granted

-- A schedule --

-- Its history where nothing is requested.
abbrev pub bare_history : Bool → State → List Event → List Entry
bare_history u b [] = []
bare_history u b (e ∷ es) = let r = bare u b e.txn e.op in (e, r.0) ∷ bare_history u r.1 es

-- The locks of others that its steps meet, one after another.
abbrev pub meetings : Protocol → Bool → State → Locks → List Event → List Meeting
meetings p u b xs [] = []
meetings p u b xs (e ∷ es) =
    let d = deed_at u b e.txn e.op in
    let r = bare u b e.txn e.op in
    met_in p xs e.txn d ++ meetings p u r.1 (record_after p xs e.txn d) es

-- Where its requests pass those, the history is the same.
follow : (p : Protocol) → IsLawful p → (b : State) (xs h : Locks) (es : List Event) → IsState p (with_locks b h) → Tells xs h → Passes p (meetings p p.updates b xs es) → (run p (with_locks b h) es).history ≡ bare_history p.updates b es
follow p laws b xs h [] k tells pass = refl
follow p laws b xs h (e ∷ es) k tells pass =
    let d = deed_at p.updates b e.txn e.op in
    let r = bare p.updates b e.txn e.op in
    let here = met_in p xs e.txn d in
    let later = meetings p p.updates r.1 (record_after p xs e.txn d) es in
    let same = step_alike p b h e.txn e.op (granted_deed p laws b xs h e.txn d tells k (passes_first p here later pass)) in
    subst (λ (x : Outcome). ◌≡◌ {A = List Entry} ((e, x.0) ∷ (run p x.1 es).history) ((e, r.0) ∷ bare_history p.updates r.1 es)) (sym same)
    (ap (λ (l : List Entry). (e, r.0) ∷ l)
    (follow p laws r.1 (record_after p xs e.txn d) (locks_after p h e.txn d) es (subst (λ (x : Outcome). IsState p x.1) same (step_keeps_state p laws (with_locks b h) e.txn e.op k))
    (tells_deed p xs h e.txn d tells) (passes_rest p here later pass)))

-- An answer differs from the serial one.
not_serial : (m : Map) (ps : List Program) → is_some (first_difference m ps) ≡ true → AreSerial m ps → ⊥
not_serial m ps differs serial = none_some (sym (ap is_some (none_if_serial m ps serial)) ∙ differs)
  where
    none_some : false ≡ true → ⊥
    none_some e = cc

-- A schedule goes wrong under each protocol of which no request conflicts with a lock that it meets, if it does where nothing is requested.
pub goes_wrong : (p : Protocol) → IsLawful p → (u : Bool) → p.updates ≡ u → (opening : Map) (es : List Event) → IsMap opening → Passes p (meetings p u (start opening) [] es)
    → list_all is_granted (replies_of (bare_history u (start opening) es)) ≡ true → is_some (first_difference opening (programs (bare_history u (start opening) es))) ≡ true → GoesWrong p opening es
goes_wrong p laws u updating opening es is_map pass granted differs =
    let same : (run p (start opening) es).history ≡ bare_history u (start opening) es
    = follow p laws (start opening) [] [] es (start_is_state p opening is_map) (λ v n. refl) (subst (λ v. Passes p (meetings p v (start opening) [] es)) (sym updating) pass) ∙ ap (λ v. bare_history v (start opening) es) updating in
    record {
      is_map = is_map;
      granted = AllPass-from_list_all is_granted _ (subst (λ l. list_all is_granted (replies_of l) ≡ true) (sym same) granted);
      not_serial = not_serial opening (programs (run p (start opening) es).history) (subst (λ l. is_some (first_difference opening (programs l)) ≡ true) (sym same) differs);
    }
