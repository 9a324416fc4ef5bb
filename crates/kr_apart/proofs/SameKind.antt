-- The same in an index of either kind: steps that are granted under two tables of one kind, from states that differ in the locks alone, have the same replies, and leave states that differ so.
use Rattle.std.proofs.Common.{ℕ, suc, ◌≡◌, refl, ap, Bool, IsTrue, List, [], ◌∷◌, Option, Some, None, if◌then◌else◌, is_some}
use Rattle.kr_model.specs.declared.Op.{Op}
use Rattle.kr_model.specs.declared.Op.TheVariants as op
use Rattle.kr_model.specs.declared.Refusal.{Refusal}
use Rattle.kr_model.specs.declared.Row.TheVariants as row
use Rattle.kr_model.specs.Protocol.{Protocol}
use Rattle.kr_model.specs.Map.{Changes, get}
use Rattle.kr_model.specs.Locks.{Locks, Request, own, blockers, kept, release}
use Rattle.kr_model.specs.State.{Scan, standing}
use Rattle.kr_model.specs.Step as gone
use Rattle.kr_model.specs.Step.{Effect, fetched, inserted, deleted, updated, refusal_of}
use Rattle.kr_model.specs.Run.{is_granted}
use Rattle.kr_ghost.specs.Protocol.{GhostProtocol}
use Rattle.kr_ghost.specs.State.{GhostState, name_from, stand, ghosts_with}
use Rattle.kr_ghost.specs.Step as ghost
use Rattle.kr_ghost.specs.Step.{Outcome, keyed_requests, insert_requests, look_requests, granted_or_blocked, attempted, looked, attempted_scan, one_taken_back, performed, unless_refused}
use Rattle.kr_kinds.specs.Kinds.{IndexProtocol, Gone, Leaves, leaves_ghosts}
use Rattle.kr_kinds.specs.Steps.{beside, step}
use Rattle.kr_apart.proofs.Same as without

-- The state with other locks.
abbrev pub with_locks : GhostState → Locks → GhostState
with_locks s k = record { state = without.with_locks s.state k; ghosts = s.ghosts }

-- The second outcome has the reply of the first, and its state but for the locks.
pub record IsSame (x y : Outcome) : Type 0 where
  pub locks : Locks
  pub same : ◌≡◌ {A = Outcome} y (x.0, with_locks x.1 locks)

-- An outcome is granted.
abbrev IsGranted : Outcome → Type 0
IsGranted x = IsTrue (is_granted x.0)

module _ (p q : GhostProtocol) (s : GhostState) (k : Locks) (t : ℕ) where
  abbrev z : GhostState
  z = with_locks s k

  decided_same : (ra rb : List Request) (e : Effect) (ghosts us vs : List ℕ) → IsGranted (granted_or_blocked p s t ra e ghosts us) → IsGranted (granted_or_blocked q z t rb e ghosts vs) → IsSame (granted_or_blocked p s t ra e ghosts us) (granted_or_blocked q z t rb e ghosts vs)
  decided_same ra rb e ghosts [] [] g h = record { locks = kept q.table k t rb; same = refl }
  decided_same ra rb e ghosts [] (v ∷ vs) g h = absurd (cc)
  decided_same ra rb e ghosts (u ∷ us) vs g h = absurd (cc)

  attempt_same : (ra rb : List Request) (e : Effect) (ghosts : List ℕ) → IsGranted (attempted p s t ra e ghosts) → IsGranted (attempted q z t rb e ghosts) → IsSame (attempted p s t ra e ghosts) (attempted q z t rb e ghosts)
  attempt_same ra rb e ghosts = decided_same ra rb e ghosts (blockers p.table s.state.locks t ra) (blockers q.table k t rb)

  scan_same : (c : Option Scan) → IsGranted (attempted_scan p s t c) → IsGranted (attempted_scan q z t c) → IsSame (attempted_scan p s t c) (attempted_scan q z t c)
  scan_same None g h = absurd (cc)
  scan_same (Some c) g h =
      let n = name_from s c.lo in attempt_same (look_requests p n c.hi) (look_requests q n c.hi) (looked s.state.map (standing s.state t) c n) s.ghosts g h

  back_same : (cs : Changes) → IsSame (one_taken_back s t cs) (one_taken_back z t cs)
  back_same [] = record { locks = k; same = refl }
  back_same (c ∷ cs) = record { locks = k; same = refl }

  performed_same : (o : Op) → IsGranted (performed p s t o) → IsGranted (performed q z t o) → IsSame (performed p s t o) (performed q z t o)
  performed_same (op.Fetch c) g h =
      attempt_same (keyed_requests p row.FetchHit c (name_from s c) (stand s c)) (keyed_requests q row.FetchHit c (name_from s c) (stand s c)) (fetched s.state.map (standing s.state t) (get s.state.map c)) s.ghosts g h
  performed_same (op.Scan lo hi) g h = scan_same (Some (record { lo = lo; hi = hi; rows = [] })) g h
  performed_same op.Go g h = scan_same (standing s.state t).scan g h
  performed_same (op.Insert c v) g h =
      attempt_same
      (insert_requests p c (name_from s c) (own s.state.locks t (name_from s c)) (name_from s (suc c)) (stand s c))
      (insert_requests q c (name_from s c) (own k t (name_from s c)) (name_from s (suc c)) (stand s c))
      (inserted s.state.map (standing s.state t) c v (get s.state.map c)) (if is_some (get s.state.map c) then s.ghosts else ghosts_with s.ghosts c (Some v)) g h
  performed_same (op.Delete c) g h =
      attempt_same (keyed_requests p row.Delete c (name_from s c) (stand s c)) (keyed_requests q row.Delete c (name_from s c) (stand s c))
      (deleted s.state.map (standing s.state t) c (get s.state.map c)) (if is_some (get s.state.map c) then ghosts_with s.ghosts c None else s.ghosts) g h
  performed_same (op.Update c v) g h =
      attempt_same (keyed_requests p row.Update c (name_from s c) (stand s c)) (keyed_requests q row.Update c (name_from s c) (stand s c))
      (updated s.state.map (standing s.state t) c v (get s.state.map c)) s.ghosts g h
  performed_same op.Commit g h = record { locks = release k t; same = refl }
  performed_same op.Abort g h = record { locks = release k t; same = refl }
  performed_same op.Back g h = back_same (standing s.state t).changes

  unless_same : (o : Op) (a b : Option Refusal) → IsGranted (unless_refused p s t o a) → IsGranted (unless_refused q z t o b) → IsSame (unless_refused p s t o a) (unless_refused q z t o b)
  unless_same o (Some r) b g h = absurd (cc)
  unless_same o None (Some r) g h = absurd (cc)
  unless_same o None None g h = performed_same o g h

  with_ghosts : (o : Op) → IsGranted (ghost.step p s t o) → IsGranted (ghost.step q z t o) → IsSame (ghost.step p s t o) (ghost.step q z t o)
  with_ghosts o = unless_same o (refusal_of p.table s.state t o) (refusal_of q.table z.state t o)

-- A step without ghosts, beside those that there are.
besides : (ghosts : List ℕ) (x y : gone.Outcome) → without.IsSame x y → IsSame (beside ghosts x) (beside ghosts y)
besides ghosts x y is = record { locks = is.locks; same = ap (beside ghosts) is.same }

pub step_same : (p q : IndexProtocol) (s : GhostState) (k : Locks) (t : ℕ) (o : Op) → leaves_ghosts p ≡ leaves_ghosts q → IsGranted (step p s t o) → IsGranted (step q (with_locks s k) t o) → IsSame (step p s t o) (step q (with_locks s k) t o)
step_same (Gone p) (Gone q) s k t o kind g h = besides s.ghosts (gone.step p s.state t o) (gone.step q (without.with_locks s.state k) t o) (without.step_same p q s.state k t o g h)
step_same (Leaves p) (Leaves q) s k t o kind g h = with_ghosts p q s k t o g h
step_same (Gone p) (Leaves q) s k t o kind g h = absurd (cc)
step_same (Leaves p) (Gone q) s k t o kind g h = absurd (cc)
