-- One step under two tables, from states that differ in the locks alone: the same reply, and states that differ so.
use Rattle.std.proofs.Common.{ℕ, suc, ◌≡◌, refl, ap, subst, Bool, true, false, List, [], ◌∷◌, Option, Some, None}
use Rattle.std.specs.Prelude.{not, ◌&&◌, if◌then◌else◌}
use Rattle.kr_model.specs.declared.Op.{Op}
use Rattle.kr_model.specs.declared.Op.TheVariants as op
use Rattle.kr_model.specs.declared.Row.{Row}
use Rattle.kr_model.specs.declared.Side.{Side}
use Rattle.kr_model.specs.declared.Step.{Step}
use Rattle.kr_model.specs.declared.Step.TheVariants as attempt
use Rattle.kr_model.specs.declared.Refusal.{Refusal}
use Rattle.kr_model.specs.declared.Refusal.TheVariants as refusal
use Rattle.kr_model.specs.declared.Reply.{Reply}
use Rattle.kr_model.specs.declared.Reply.TheVariants as reply
use Rattle.kr_model.specs.Protocol.{Protocol, IsLawful}
use Rattle.kr_model.specs.Map.{Map, Changes, get, at, restore_all}
use Rattle.kr_model.specs.Locks.{Locks, Request, blockers, kept, release}
use Rattle.kr_model.specs.Plan.{access_of, plan_of, requests}
use Rattle.kr_model.specs.State.{State, Scan, standing, has_ended, is_rolling, is_scanning}
use Rattle.kr_model.specs.Step.{Effect, Outcome, fetched, inserted, deleted, updated, looked, name_after, name_to_look, ended_with, granted_or_blocked, attempted, attempted_scan, one_taken_back, performed, takes_back, goes_on, is_go, is_bad_range, is_update, is_full, refusal_of, unless_refused, step}
use Rattle.kr_alike.specs.declared.modes.Modes.{Modes}
use Rattle.kr_alike.specs.Closed.{IsClosedFor}
use Rattle.kr_alike.proofs.Held.{modes, AreIn, ended}
use Rattle.kr_alike.proofs.Answers.{MayCome, same_blockers, kept_in}
use Rattle.kr_alike.proofs.Names.{apart}

-- The state with other locks.
abbrev pub with_locks : State → Locks → State
with_locks s k = record s { locks = k }

-- The second outcome has the reply and the state of the first, but for the locks, and what is held under the two tables is in the set.
pub record IsSame (R : Modes → Modes → Type 0) (x y : Outcome) : Type 0 where
  pub locks : Locks
  pub same : ◌≡◌ {A = Outcome} y (x.0, with_locks x.1 locks)
  pub held : AreIn R (modes x.1.locks locks)

-- An attempt is one of a step: an update where updates are offered, and a look at a name of the map.
abbrev pub IsAttempt : Protocol → Map → Step → Type 0
IsAttempt p m (attempt.Fetch k) = Unit {0}
IsAttempt p m (attempt.Insert k) = Unit {0}
IsAttempt p m (attempt.Delete k) = Unit {0}
IsAttempt p m (attempt.Update k) = p.updates ≡ true
IsAttempt p m (attempt.Look n hi) = (c : ℕ) × (n ≡ at m c)

-- What t may do in this state but for undoing changes: it hasn't ended, and doesn't roll back.
pub record IsForward (s : State) (t : ℕ) : Type 0 where
  pub live : has_ended s t ≡ false
  pub unrolled : is_rolling s t ≡ false

-- The requests of each attempt of t may come.
abbrev pub Comes : Protocol → (Row → Side → ℕ → ℕ → ℕ → Type 0) → State → ℕ → Type 0
Comes p May s t = IsForward s t → (a : Step) → IsAttempt p s.map a → (u : ℕ) → (u ≡ t → ⊥) → MayCome p May s.locks t (access_of s.map a) u

look_at : (m : Map) (lo : ℕ) (rows : List (ℕ × ℕ)) → (c : ℕ) × (name_after m lo rows ≡ at m c)
look_at m lo [] = (lo, refl)
look_at m lo (e ∷ []) = (suc e.0, refl)
look_at m lo (e ∷ f ∷ es) = look_at m lo (f ∷ es)

-- No refusal --

first_if : (b : Bool) (r : Refusal) (x : Option Refusal) → (if b then Some r else x) ≡ None → (b ≡ false) × (x ≡ None)
first_if true r x h = absurd (cc)
first_if false r x h = (refl, h)

-- What an operation may do that isn't refused: it goes forward unless it undoes changes, and an update is offered.
pub record IsAllowed (p : Protocol) (s : State) (t : ℕ) (o : Op) : Type 0 where
  pub forward : takes_back o ≡ false → IsForward s t
  pub offered : is_update o ≡ true → p.updates ≡ true

pub allowed : (p : Protocol) (s : State) (t : ℕ) (o : Op) → refusal_of p s t o ≡ None → IsAllowed p s t o
allowed p s t o h =
    let a = first_if (has_ended s t) refusal.Ended _ h in
    let b = first_if (is_full s t) refusal.Full _ a.1 in
    let c = first_if (is_rolling s t && not (takes_back o)) refusal.RollingBack _ b.1 in
    let d = first_if (is_scanning s t && not (goes_on o)) refusal.Busy _ c.1 in
    let e = first_if (not (is_scanning s t) && is_go o) refusal.NoScan _ d.1 in
    let f = first_if (is_bad_range o) refusal.BadRange _ e.1 in
    let g = first_if (is_update o && not p.updates) refusal.NoUpdate _ f.1 in
    record { forward = λ no. record { live = a.0; unrolled = unless (is_rolling s t) (takes_back o) no c.0 }; offered = λ is. where_offered (is_update o) p.updates is g.0 }
  where
    unless : (b c : Bool) → c ≡ false → (b && not c) ≡ false → b ≡ false
    unless true true e f = absurd (cc)
    unless true false e f = absurd (cc)
    unless false c e f = refl

    where_offered : (b c : Bool) → b ≡ true → (b && not c) ≡ false → c ≡ true
    where_offered true true e f = refl
    where_offered true false e f = absurd (cc)
    where_offered false c e f = absurd (cc)

module _ (p q : Protocol) (lawful : IsLawful p) (lawful_too : IsLawful q) (updates : p.updates ≡ q.updates) (May : Row → Side → ℕ → ℕ → ℕ → Type 0) (R : Modes → Modes → Type 0) (closed : IsClosedFor p q May R) (s : State) (k : Locks) (are : AreIn R (modes s.locks k)) (t : ℕ) (comes : Comes p May s t) where
  abbrev z : State
  z = with_locks s k

  -- Nothing is changed.
  stays : (r : Reply) → IsSame R (r, s) (r, z)
  stays r = record { locks = k; same = refl; held = are }

  -- The requests of an attempt under the two tables.
  abbrev asks1 : Step → List Request
  asks1 a = requests (plan_of p s.map s.locks t a)

  abbrev asks2 : Step → List Request
  asks2 a = requests (plan_of q s.map k t a)

  attempt_same : IsForward s t → (a : Step) → IsAttempt p s.map a → (e : Effect) → IsSame R (attempted p s t a e) (attempted q z t a e)
  attempt_same forward a is e =
      subst (λ us. IsSame R (attempted p s t a e) (granted_or_blocked q z t (asks2 a) e us)) (same_blockers p q lawful lawful_too May R closed s.locks k are t (access_of s.map a) (comes forward a is)) (by (blockers p s.locks t (asks1 a)) refl)
    where
      by : (us : List ℕ) → blockers p s.locks t (asks1 a) ≡ us → IsSame R (granted_or_blocked p s t (asks1 a) e us) (granted_or_blocked q z t (asks2 a) e us)
      by [] none = record { locks = kept q k t (asks2 a); same = refl; held = kept_in p q lawful lawful_too May R closed s.locks k are t (access_of s.map a) (comes forward a is) none (apart s.map a) }
      by (u ∷ us) some = stays (reply.Blocked (u ∷ us))

  scan_same : IsForward s t → (c : Option Scan) → IsSame R (attempted_scan p s t c) (attempted_scan q z t c)
  scan_same forward None = stays (reply.Refused refusal.NoScan)
  scan_same forward (Some c) = let n = name_to_look s.map c in attempt_same forward (attempt.Look n c.hi) (look_at s.map c.lo c.rows) (looked s.map (standing s t) c n)

  end_same : (r : Reply) (m : Map) → IsSame R (r, ended_with s t m) (r, ended_with z t m)
  end_same r m = record { locks = release k t; same = refl; held = ended p q May R closed s.locks k are t }

  back_same : (cs : Changes) → IsSame R (one_taken_back s t cs) (one_taken_back z t cs)
  back_same [] = stays (reply.Refused refusal.NothingLeft)
  back_same (c ∷ cs) = record { locks = k; same = refl; held = are }

  performed_same : (o : Op) → IsAllowed p s t o → IsSame R (performed p s t o) (performed q z t o)
  performed_same (op.Fetch k) a = attempt_same (a.forward refl) (attempt.Fetch k) tt (fetched s.map (standing s t) (get s.map k))
  performed_same (op.Scan lo hi) a = scan_same (a.forward refl) (Some (record { lo = lo; hi = hi; rows = [] }))
  performed_same op.Go a = scan_same (a.forward refl) (standing s t).scan
  performed_same (op.Insert k v) a = attempt_same (a.forward refl) (attempt.Insert k) tt (inserted s.map (standing s t) k v (get s.map k))
  performed_same (op.Delete k) a = attempt_same (a.forward refl) (attempt.Delete k) tt (deleted s.map (standing s t) k (get s.map k))
  performed_same (op.Update k v) a = attempt_same (a.forward refl) (attempt.Update k) (a.offered refl) (updated s.map (standing s t) k v (get s.map k))
  performed_same op.Commit a = end_same reply.Committed s.map
  performed_same op.Abort a = end_same reply.Aborted (restore_all s.map (standing s t).changes)
  performed_same op.Back a = back_same (standing s t).changes

  -- A table matters to a refusal only by whether it offers updates.
  refusal_same : (o : Op) → refusal_of p s t o ≡ refusal_of q z t o
  refusal_same o = ap (λ b. refusal_of (record p { updates = b }) s t o) updates

  pub step_same : (o : Op) → IsSame R (step p s t o) (step q z t o)
  step_same o = subst (λ r. IsSame R (step p s t o) (unless_refused q z t o r)) (refusal_same o) (by (refusal_of p s t o) refl)
    where
      by : (r : Option Refusal) → refusal_of p s t o ≡ r → IsSame R (unless_refused p s t o r) (unless_refused q z t o r)
      by (Some r) e = stays (reply.Refused r)
      by None e = performed_same o (allowed p s t o e)
