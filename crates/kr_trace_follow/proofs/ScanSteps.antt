-- What a step leaves of the scans in progress.
use Rattle.std.specs.Prelude.{◌≡◌, ℕ, Bool, true, false, not, ◌==◌, nat_le, ◌&&◌, is_some, cond, List, [], ◌∷◌, ◌++◌, Option, Some, None, filter, unwrap_or, refl}
use Rattle.std.specs.Ordering.{nat_cmp}
use Rattle.std.specs.FinMap.{find, put}
use Rattle.std.proofs.Common.{sym, ◌∙◌, ap, subst, inl, inr}
use Rattle.kr_model.specs.declared.Name.{Name}
use Rattle.kr_model.specs.declared.Name.TheVariants.{Key, End}
use Rattle.kr_model.specs.declared.Op.{Op}
use Rattle.kr_model.specs.declared.Op.TheVariants as op
use Rattle.kr_model.specs.declared.Refusal.{Refusal}
use Rattle.kr_model.specs.declared.Refusal.TheVariants as refusal
use Rattle.kr_model.specs.declared.Reply.{Reply}
use Rattle.kr_model.specs.declared.Reply.TheVariants as reply
use Rattle.kr_model.specs.declared.Step.TheVariants as attempt
use Rattle.kr_model.specs.Protocol.{Protocol}
use Rattle.kr_model.specs.Map.{Map, Changes, get, after}
use Rattle.kr_model.specs.Locks.{Request, blockers}
use Rattle.kr_model.specs.Plan.{plan_of, requests}
use Rattle.kr_model.specs.State.{Scan, Active, State, idle, active_of, standing, has_ended, is_scanning, is_rolling}
use Rattle.kr_model.specs.Step.{Outcome, step, refusal_of, unless_refused, performed, granted_or_blocked, attempted_scan, looked, row_read, fetched, inserted, deleted, updated, name_after, name_to_look, one_taken_back, is_full, goes_on, takes_back}
use Rattle.kr_model.proofs.Actives.{tied, find_put_same, find_put_other, find_filter, find_filter_other}
use Rattle.kr_model.proofs.KindsOfSteps.{Kind, not_refused}

-- What a step leaves of its transaction's scan --

-- The scan has the range of the operation that begins it, or that of the scan in progress.
abbrev pub HasRange : Option Scan → Op → Scan → Type 0
HasRange was (op.Scan lo hi) c = (c.lo ≡ lo) × (c.hi ≡ hi)
HasRange was op.Go c = (b : Scan) × ((was ≡ Some b) × ((c.lo ≡ b.lo) × (c.hi ≡ b.hi)))
HasRange was _ c = ⊥

-- The scan goes on after this key.
pub record GoesOn (was : Option Scan) (o : Op) (k : ℕ) (now : Option Scan) : Type 0 where
  pub scan : Scan
  pub is : now ≡ Some scan
  pub range : HasRange was o scan
  pub read : (m : Map) → name_to_look m scan ≡ after m k

-- What is left after this reply.
abbrev pub Leaves : State → ℕ → Op → Reply → State → Type 0
Leaves s t o (reply.Going k) new = GoesOn (standing s t).scan o k (standing new t).scan
Leaves s t o (reply.Blocked us) new = new ≡ s
Leaves s t o (reply.Refused r) new = new ≡ s
Leaves s t o _ new = (standing new t).scan ≡ None

abbrev pub LeavesBy : State → ℕ → Op → Outcome → Type 0
LeavesBy s t o done = Leaves s t o done.0 done.1

scan_put : (es : List (ℕ × Active)) (t : ℕ) (a : Active) → (unwrap_or (find nat_cmp t (put nat_cmp t a es)) idle).scan ≡ a.scan
scan_put es t a = ap (λ x. (unwrap_or x idle).scan) (find_put_same es t a)

scan_gone : (es : List (ℕ × Active)) (t : ℕ) → (unwrap_or (find nat_cmp t (filter (λ e. not (e.0 == t)) es)) idle).scan ≡ None
scan_gone es t = ap (λ x. (unwrap_or x idle).scan) (find_filter es t t ∙ ap (λ b. cond (not b) (find nat_cmp t es) None) (tied t))

fetch_leaves : (p : Protocol) (s : State) (t k : ℕ) (rs : List Request) (g : Option ℕ) (us : List ℕ) → (standing s t).scan ≡ None
    → LeavesBy s t (op.Fetch k) (granted_or_blocked p s t rs (fetched s.map (standing s t) g) us)
fetch_leaves p s t k rs g (u ∷ us) none = refl
fetch_leaves p s t k rs (Some v) [] none = scan_put s.active t (standing s t) ∙ none
fetch_leaves p s t k rs None [] none = scan_put s.active t (standing s t) ∙ none

insert_leaves : (p : Protocol) (s : State) (t k v : ℕ) (rs : List Request) (g : Option ℕ) (us : List ℕ) → (standing s t).scan ≡ None
    → LeavesBy s t (op.Insert k v) (granted_or_blocked p s t rs (inserted s.map (standing s t) k v g) us)
insert_leaves p s t k v rs g (u ∷ us) none = refl
insert_leaves p s t k v rs (Some w) [] none = scan_put s.active t (standing s t) ∙ none
insert_leaves p s t k v rs None [] none = scan_put s.active t (record (standing s t) { changes = (k, None) ∷ (standing s t).changes }) ∙ none

delete_leaves : (p : Protocol) (s : State) (t k : ℕ) (rs : List Request) (g : Option ℕ) (us : List ℕ) → (standing s t).scan ≡ None
    → LeavesBy s t (op.Delete k) (granted_or_blocked p s t rs (deleted s.map (standing s t) k g) us)
delete_leaves p s t k rs g (u ∷ us) none = refl
delete_leaves p s t k rs (Some w) [] none = scan_put s.active t (record (standing s t) { changes = (k, Some w) ∷ (standing s t).changes }) ∙ none
delete_leaves p s t k rs None [] none = scan_put s.active t (standing s t) ∙ none

update_leaves : (p : Protocol) (s : State) (t k v : ℕ) (rs : List Request) (g : Option ℕ) (us : List ℕ) → (standing s t).scan ≡ None
    → LeavesBy s t (op.Update k v) (granted_or_blocked p s t rs (updated s.map (standing s t) k v g) us)
update_leaves p s t k v rs g (u ∷ us) none = refl
update_leaves p s t k v rs (Some w) [] none = scan_put s.active t (record (standing s t) { changes = (k, Some w) ∷ (standing s t).changes }) ∙ none
update_leaves p s t k v rs None [] none = scan_put s.active t (standing s t) ∙ none

name_after_row : (m : Map) (lo : ℕ) (rows : List (ℕ × ℕ)) (k v : ℕ) → name_after m lo (rows ++ (k, v) ∷ []) ≡ after m k
name_after_row m lo [] k v = refl
name_after_row m lo (x ∷ []) k v = refl
name_after_row m lo (x ∷ y ∷ ys) k v = name_after_row m lo (y ∷ ys) k v

read_leaves : (p : Protocol) (s : State) (t : ℕ) (o : Op) (rs : List Request) (c : Scan) (k v : ℕ) (at_end : Bool)
    → ((rows : List (ℕ × ℕ)) → HasRange (standing s t).scan o (record { lo = c.lo; hi = c.hi; rows = rows }))
    → let rows = c.rows ++ (k, v) ∷ [] in
    LeavesBy s t o (granted_or_blocked p s t rs
    (cond at_end (record { reply = reply.Rows rows; map = s.map; standing = record (standing s t) { scan = None } })
    (record { reply = reply.Going k; map = s.map; standing = record (standing s t) { scan = Some (record { lo = c.lo; hi = c.hi; rows = rows }) } })) [])
read_leaves p s t o rs c k v true range = scan_put s.active t (record (standing s t) { scan = None })
read_leaves p s t o rs c k v false range =
    let rows = c.rows ++ (k, v) ∷ [] in
    let left : Scan = record { lo = c.lo; hi = c.hi; rows = rows } in
    record {
      scan = left;
      is = scan_put s.active t (record (standing s t) { scan = Some left });
      range = range rows;
      read = λ m. name_after_row m c.lo c.rows k v;
    }

key_leaves : (p : Protocol) (s : State) (t : ℕ) (o : Op) (rs : List Request) (c : Scan) (k : ℕ) (within : Bool)
    → ((rows : List (ℕ × ℕ)) → HasRange (standing s t).scan o (record { lo = c.lo; hi = c.hi; rows = rows }))
    → LeavesBy s t o (granted_or_blocked p s t rs
    (cond within (row_read s.map (standing s t) c k (unwrap_or (get s.map k) 0))
    (record { reply = reply.Rows c.rows; map = s.map; standing = record (standing s t) { scan = None } })) [])
key_leaves p s t o rs c k true range = read_leaves p s t o rs c k (unwrap_or (get s.map k) 0) (k == c.hi) range
key_leaves p s t o rs c k false range = scan_put s.active t (record (standing s t) { scan = None })

look_leaves : (p : Protocol) (s : State) (t : ℕ) (o : Op) (rs : List Request) (c : Scan) (n : Name) (us : List ℕ)
    → ((rows : List (ℕ × ℕ)) → HasRange (standing s t).scan o (record { lo = c.lo; hi = c.hi; rows = rows }))
    → LeavesBy s t o (granted_or_blocked p s t rs (looked s.map (standing s t) c n) us)
look_leaves p s t o rs c n (u ∷ us) range = refl
look_leaves p s t o rs c End [] range = scan_put s.active t (record (standing s t) { scan = None })
look_leaves p s t o rs c (Key k) [] range = key_leaves p s t o rs c k (nat_le k c.hi) range

go_leaves : (p : Protocol) (s : State) (t : ℕ) (c : Option Scan) → (standing s t).scan ≡ c → LeavesBy s t op.Go (attempted_scan p s t c)
go_leaves p s t None is = refl
go_leaves p s t (Some c) is =
    let n = name_to_look s.map c in
    let rs = requests (plan_of p s.map s.locks t (attempt.Look n c.hi)) in
    look_leaves p s t op.Go rs c n (blockers p s.locks t rs) (λ rows. (c, (is, (refl, refl))))

back_leaves : (s : State) (t : ℕ) (cs : Changes) → LeavesBy s t op.Back (one_taken_back s t cs)
back_leaves s t [] = refl
back_leaves s t (c ∷ cs) = scan_put s.active t (record { scan = None; changes = cs; rolling = true })

performed_leaves : (p : Protocol) (s : State) (t : ℕ) (o : Op) → (goes_on o ≡ false → (standing s t).scan ≡ None) → LeavesBy s t o (performed p s t o)
performed_leaves p s t (op.Fetch k) rest =
    let rs = requests (plan_of p s.map s.locks t (attempt.Fetch k)) in
    fetch_leaves p s t k rs (get s.map k) (blockers p s.locks t rs) (rest refl)
performed_leaves p s t (op.Insert k v) rest =
    let rs = requests (plan_of p s.map s.locks t (attempt.Insert k)) in
    insert_leaves p s t k v rs (get s.map k) (blockers p s.locks t rs) (rest refl)
performed_leaves p s t (op.Delete k) rest =
    let rs = requests (plan_of p s.map s.locks t (attempt.Delete k)) in
    delete_leaves p s t k rs (get s.map k) (blockers p s.locks t rs) (rest refl)
performed_leaves p s t (op.Update k v) rest =
    let rs = requests (plan_of p s.map s.locks t (attempt.Update k)) in
    update_leaves p s t k v rs (get s.map k) (blockers p s.locks t rs) (rest refl)
performed_leaves p s t (op.Scan lo hi) rest =
    let c : Scan = record { lo = lo; hi = hi; rows = [] } in
    let n = name_to_look s.map c in
    let rs = requests (plan_of p s.map s.locks t (attempt.Look n hi)) in
    look_leaves p s t (op.Scan lo hi) rs c n (blockers p s.locks t rs) (λ rows. (refl, refl))
performed_leaves p s t op.Go rest = go_leaves p s t (standing s t).scan refl
performed_leaves p s t op.Commit rest = scan_gone s.active t
performed_leaves p s t op.Abort rest = scan_gone s.active t
performed_leaves p s t op.Back rest = back_leaves s t (standing s t).changes

no_scan : (c : Option Scan) (goes : Bool) → (is_some c && not goes) ≡ false → goes ≡ false → c ≡ None
no_scan None goes h e = refl
no_scan (Some c) true h e = absurd (cc)
no_scan (Some c) false h e = let no : true ≡ false = h in absurd (cc)

unless_leaves : (p : Protocol) (s : State) (t : ℕ) (o : Op) (r : Option Refusal) → refusal_of p s t o ≡ r → LeavesBy s t o (unless_refused p s t o r)
unless_leaves p s t o (Some r) e = refl
unless_leaves p s t o None e =
    let ended = not_refused (has_ended s t) refusal.Ended _ e in
    let full = not_refused (is_full s t) refusal.Full _ ended.1 in
    let rolls = not_refused (is_rolling s t && not (takes_back o)) refusal.RollingBack _ full.1 in
    let busy = not_refused (is_scanning s t && not (goes_on o)) refusal.Busy _ rolls.1 in
    performed_leaves p s t o (no_scan (standing s t).scan (goes_on o) busy.0)

pub step_leaves : (p : Protocol) (s : State) (t : ℕ) (o : Op) → LeavesBy s t o (step p s t o)
step_leaves p s t o = unless_leaves p s t o (refusal_of p s t o) refl

-- Every other transaction stands as before.
pub others_stand : (s : State) (t u : ℕ) (o : Op) (a : Reply) (new : State) → (u ≡ t → ⊥) → Kind s t o a new → active_of new u ≡ active_of s u
others_stand s t u o a new d (inl k) = ap (λ z. active_of z u) k.0
others_stand s t u o a new d (inr (inl k)) = ap (find nat_cmp u) k.active ∙ find_put_other s.active t u k.standing d
others_stand s t u o a new d (inr (inr (inl k))) = ap (find nat_cmp u) k.active ∙ find_filter_other s.active t u d
others_stand s t u o a new d (inr (inr (inr k))) = ap (find nat_cmp u) k.active ∙ find_put_other s.active t u k.standing d

-- A step that is blocked leaves the state.
pub blocked_stays : (p : Protocol) (s : State) (t : ℕ) (o : Op) (us : List ℕ) (new : State) → ◌≡◌ {A = Outcome} (reply.Blocked us, new) (step p s t o) → new ≡ s
blocked_stays p s t o us new is = subst (λ (d : Outcome). LeavesBy s t o d) (sym is) (step_leaves p s t o)
