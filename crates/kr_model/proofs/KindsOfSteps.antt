-- The kinds of steps: one that changes nothing, one that is granted, one that ends its transaction, and one that undoes a change.
use Rattle.std.specs.Prelude.{◌≡◌, ℕ, Bool, true, false, not, ◌==◌, ◌&&◌, cond, List, [], ◌∷◌, Option, Some, None, is_some, unwrap_or, filter, refl, ◌⊎◌, length}
use Rattle.std.specs.Ordering.{nat_cmp}
use Rattle.std.specs.FinMap.{put}
use Rattle.std.proofs.Common.{sym, ◌∙◌, ap, subst, inl, inr}
use Rattle.kr_model.specs.declared.Op.{Op}
use Rattle.kr_model.specs.declared.Op.TheVariants as op
use Rattle.kr_model.specs.declared.Reply.{Reply}
use Rattle.kr_model.specs.declared.Reply.TheVariants as reply
use Rattle.kr_model.specs.declared.Refusal.{Refusal}
use Rattle.kr_model.specs.declared.Refusal.TheVariants as refusal
use Rattle.kr_model.specs.Protocol.{Protocol}
use Rattle.kr_model.specs.Map.{Changes, get}
use Rattle.kr_model.specs.Locks.{Request, add_once, blockers}
use Rattle.kr_model.specs.Plan.{plan_of, requests}
use Rattle.kr_model.specs.declared.Step.TheVariants as attempt
use Rattle.kr_model.specs.State.{State, Active, Scan, idle, active_of, standing, has_ended, is_scanning, is_rolling}
use Rattle.kr_model.specs.Step.{Effect, Outcome, IsStep, refusal_of, unless_refused, performed, granted_or_blocked, looked, fetched, inserted, deleted, updated, attempted_scan, name_to_look, is_full, goes_on, takes_back, one_taken_back}
use Rattle.kr_model.specs.Run.{is_granted}
use Rattle.kr_model.proofs.LogReads.{Adds, adds_answer, adds_begins, adds_goes_on, adds_ends, EffectAdds, adds_fetch, adds_insert, adds_delete, adds_update, adds_looked}

-- A step of t that is granted and doesn't end it.
pub record IsGranted (s : State) (t : ℕ) (o : Op) (a : Reply) (new : State) : Type 0 where
  pub standing : Active
  pub active : new.active ≡ put nat_cmp t standing s.active
  pub ended : new.ended ≡ s.ended
  pub works : has_ended s t ≡ false
  pub unrolled : is_rolling s t ≡ false
  pub adds : Adds o a (is_scanning s t) (is_some standing.scan)

-- A step of t that ends it.
pub record IsEnd (s : State) (t : ℕ) (o : Op) (a : Reply) (new : State) : Type 0 where
  pub active : new.active ≡ filter (λ e. not (e.0 == t)) s.active
  pub ended : new.ended ≡ add_once t s.ended
  pub works : has_ended s t ≡ false
  pub kept : ((o ≡ op.Commit) × (a ≡ reply.Committed) × (is_rolling s t ≡ false)) ⊎ (a ≡ reply.Aborted)

-- A step of t that takes one of its changes back: t is active, and rolls back from then on.
pub record IsBack (s : State) (t : ℕ) (o : Op) (a : Reply) (new : State) : Type 0 where
  pub standing : Active
  pub active : new.active ≡ put nat_cmp t standing s.active
  pub ended : new.ended ≡ s.ended
  pub works : has_ended s t ≡ false
  pub present : is_some (active_of s t) ≡ true
  pub rolls : standing.rolling ≡ true
  pub left : ℕ
  pub back : o ≡ op.Back
  pub undone : a ≡ reply.Undone left

-- A step changes nothing, or is granted, or ends its transaction, or undoes a change.
abbrev pub Kind : State → ℕ → Op → Reply → State → Type 0
Kind s t o a new = ((new ≡ s) × (is_granted a ≡ false)) ⊎ (IsGranted s t o a new ⊎ (IsEnd s t o a new ⊎ IsBack s t o a new))

silent_kind : (s : State) (t : ℕ) (o : Op) (a b : Reply) (new : State) → ◌≡◌ {A = Outcome} (a, new) (b, s) → is_granted b ≡ false → Kind s t o a new
silent_kind s t o a b new e g = inl (ap (λ (x : Outcome). x.1) e, ap (λ (x : Outcome). is_granted x.0) e ∙ g)

attempt_kind : (p : Protocol) (s : State) (t : ℕ) (o : Op) (rs : List Request) (e : Effect) (us : List ℕ) (a : Reply) (new : State) → has_ended s t ≡ false → is_rolling s t ≡ false → EffectAdds o (is_scanning s t) e
    → ◌≡◌ {A = Outcome} (a, new) (granted_or_blocked p s t rs e us) → Kind s t o a new
attempt_kind p s t o rs e (u ∷ us) a new works unrolled adds is = silent_kind s t o a (reply.Blocked (u ∷ us)) new is refl
attempt_kind p s t o rs e [] a new works unrolled adds is =
    inr (inl record {
      standing = e.standing;
      active = ap (λ (x : Outcome). x.1.active) is;
      ended = ap (λ (x : Outcome). x.1.ended) is;
      works = works;
      unrolled = unrolled;
      adds = subst (λ z. Adds o z (is_scanning s t) (is_some e.standing.scan)) (sym (ap (λ (x : Outcome). x.0) is)) adds;
    })

looked_kind : (p : Protocol) (s : State) (t : ℕ) (o : Op) (c : Scan) (a : Reply) (new : State) → has_ended s t ≡ false → is_rolling s t ≡ false
    → ((rows : List (ℕ × ℕ)) → Adds o (reply.Rows rows) (is_scanning s t) false) → ((k : ℕ) → Adds o (reply.Going k) (is_scanning s t) true)
    → ◌≡◌ {A = Outcome} (a, new) (attempted_scan p s t (Some c)) → Kind s t o a new
looked_kind p s t o c a new works unrolled ends goes is =
    let n = name_to_look s.map c in
    let rs = requests (plan_of p s.map s.locks t (attempt.Look n c.hi)) in
    attempt_kind p s t o rs (looked s.map (standing s t) c n) (blockers p s.locks t rs) a new works unrolled (adds_looked o (is_scanning s t) ends goes s.map (standing s t) c n) is

go_kind : (p : Protocol) (s : State) (t : ℕ) (a : Reply) (new : State) (c : Option Scan) → (standing s t).scan ≡ c → has_ended s t ≡ false → is_rolling s t ≡ false
    → ◌≡◌ {A = Outcome} (a, new) (attempted_scan p s t c) → Kind s t op.Go a new
go_kind p s t a new None e works unrolled is = silent_kind s t op.Go a (reply.Refused refusal.NoScan) new is refl
go_kind p s t a new (Some c) e works unrolled is = looked_kind p s t op.Go c a new works unrolled (λ rows. adds_ends rows (is_scanning s t) (ap is_some e)) (λ k. adds_goes_on k (is_scanning s t) (ap is_some e)) is

-- Who has changes is active.
has_changes : (s : State) (t : ℕ) (x : Option Active) (c : ℕ × Option ℕ) (cs : Changes) → active_of s t ≡ x → (unwrap_or x idle).changes ≡ c ∷ cs → is_some (active_of s t) ≡ true
has_changes s t (Some a) c cs is e = ap is_some is
has_changes s t None c cs is e = absurd (cc)

back_kind : (s : State) (t : ℕ) (a : Reply) (new : State) (cs : Changes) → (standing s t).changes ≡ cs → has_ended s t ≡ false
    → ◌≡◌ {A = Outcome} (a, new) (one_taken_back s t cs) → Kind s t op.Back a new
back_kind s t a new [] e works is = silent_kind s t op.Back a (reply.Refused refusal.NothingLeft) new is refl
back_kind s t a new (c ∷ cs) e works is =
    inr (inr (inr record {
      standing = record { scan = None; changes = cs; rolling = true };
      active = ap (λ (x : Outcome). x.1.active) is;
      ended = ap (λ (x : Outcome). x.1.ended) is;
      works = works;
      present = has_changes s t (active_of s t) c cs refl e;
      rolls = refl;
      left = length cs;
      back = refl;
      undone = ap (λ (x : Outcome). x.0) is;
    }))

-- What an operation does that isn't refused.
performed_kind : (p : Protocol) (s : State) (t : ℕ) (o : Op) (a : Reply) (new : State) → has_ended s t ≡ false → (goes_on o ≡ false → is_scanning s t ≡ false) → (takes_back o ≡ false → is_rolling s t ≡ false)
    → ◌≡◌ {A = Outcome} (a, new) (performed p s t o) → Kind s t o a new
performed_kind p s t (op.Fetch k) a new works rest unrolled is =
    let rs = requests (plan_of p s.map s.locks t (attempt.Fetch k)) in
    attempt_kind p s t (op.Fetch k) rs (fetched s.map (standing s t) (get s.map k)) (blockers p s.locks t rs) a new works (unrolled refl) (adds_fetch s.map (standing s t) k (get s.map k) (is_scanning s t) (rest refl) (rest refl)) is
performed_kind p s t (op.Insert k v) a new works rest unrolled is =
    let rs = requests (plan_of p s.map s.locks t (attempt.Insert k)) in
    attempt_kind p s t (op.Insert k v) rs (inserted s.map (standing s t) k v (get s.map k)) (blockers p s.locks t rs) a new works (unrolled refl) (adds_insert s.map (standing s t) k v (get s.map k) (is_scanning s t) (rest refl) (rest refl)) is
performed_kind p s t (op.Delete k) a new works rest unrolled is =
    let rs = requests (plan_of p s.map s.locks t (attempt.Delete k)) in
    attempt_kind p s t (op.Delete k) rs (deleted s.map (standing s t) k (get s.map k)) (blockers p s.locks t rs) a new works (unrolled refl) (adds_delete s.map (standing s t) k (get s.map k) (is_scanning s t) (rest refl) (rest refl)) is
performed_kind p s t (op.Update k v) a new works rest unrolled is =
    let rs = requests (plan_of p s.map s.locks t (attempt.Update k)) in
    attempt_kind p s t (op.Update k v) rs (updated s.map (standing s t) k v (get s.map k)) (blockers p s.locks t rs) a new works (unrolled refl) (adds_update s.map (standing s t) k v (get s.map k) (is_scanning s t) (rest refl) (rest refl)) is
performed_kind p s t (op.Scan lo hi) a new works rest unrolled is =
    looked_kind p s t (op.Scan lo hi) (record { lo = lo; hi = hi; rows = [] }) a new works (unrolled refl)
    (λ rows. adds_answer (op.Scan lo hi) (reply.Rows rows) (is_scanning s t) (rest refl) (λ l u. refl) refl refl refl (λ u f. refl) (λ os. refl))
    (λ k. adds_begins lo hi k (is_scanning s t) (rest refl)) is
performed_kind p s t op.Go a new works rest unrolled is = go_kind p s t a new (standing s t).scan refl works (unrolled refl) is
performed_kind p s t op.Commit a new works rest unrolled is =
    inr (inr (inl record {
      active = ap (λ (x : Outcome). x.1.active) is;
      ended = ap (λ (x : Outcome). x.1.ended) is;
      works = works;
      kept = inl (refl, ap (λ (x : Outcome). x.0) is, unrolled refl);
    }))
performed_kind p s t op.Abort a new works rest unrolled is =
    inr (inr (inl record {
      active = ap (λ (x : Outcome). x.1.active) is;
      ended = ap (λ (x : Outcome). x.1.ended) is;
      works = works;
      kept = inr (ap (λ (x : Outcome). x.0) is);
    }))
performed_kind p s t op.Back a new works rest unrolled is = back_kind s t a new (standing s t).changes refl works is

pub not_refused : (b : Bool) (r : Refusal) (o : Option Refusal) → cond b (Some r) o ≡ None → (b ≡ false) × (o ≡ None)
not_refused true r o e = absurd (cc)
not_refused false r o e = (refl, e)

not_busy : (b c : Bool) → (b && not c) ≡ false → c ≡ false → b ≡ false
not_busy true true h e = absurd (cc)
not_busy true false h e = absurd (cc)
not_busy false c h e = refl

unless_kind : (p : Protocol) (s : State) (t : ℕ) (o : Op) (a : Reply) (new : State) (r : Option Refusal) → refusal_of p s t o ≡ r → ◌≡◌ {A = Outcome} (a, new) (unless_refused p s t o r) → Kind s t o a new
unless_kind p s t o a new (Some r) e is = silent_kind s t o a (reply.Refused r) new is refl
unless_kind p s t o a new None e is =
    let ended = not_refused (has_ended s t) refusal.Ended _ e in
    let full = not_refused (is_full s t) refusal.Full _ ended.1 in
    let rolls = not_refused (is_rolling s t && not (takes_back o)) refusal.RollingBack _ full.1 in
    let busy = not_refused (is_scanning s t && not (goes_on o)) refusal.Busy _ rolls.1 in
    performed_kind p s t o a new ended.0 (not_busy (is_scanning s t) (goes_on o) busy.0) (not_busy (is_rolling s t) (takes_back o) rolls.0) is

-- Each step is of one of the kinds.
pub kind_of : (p : Protocol) (s : State) (t : ℕ) (o : Op) (a : Reply) (new : State) → IsStep p s t o a new → Kind s t o a new
kind_of p s t o a new (inl e) = unless_kind p s t o a new (refusal_of p s t o) refl e
kind_of p s t o a new (inr m) = inl (m.1, ap is_granted m.0)
