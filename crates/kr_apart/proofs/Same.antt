-- Steps that are granted under two tables, from states that differ in the locks alone, have the same replies, and leave states that differ so.
use Rattle.std.proofs.Common.{ℕ, ◌≡◌, refl, IsTrue, List, [], ◌∷◌, Option, Some, None}
use Rattle.kr_model.specs.declared.Op.{Op}
use Rattle.kr_model.specs.declared.Op.TheVariants as op
use Rattle.kr_model.specs.declared.Step.{Step}
use Rattle.kr_model.specs.declared.Step.TheVariants as attempt
use Rattle.kr_model.specs.declared.Refusal.{Refusal}
use Rattle.kr_model.specs.declared.Reply.{Reply}
use Rattle.kr_model.specs.declared.Reply.TheVariants as reply
use Rattle.kr_model.specs.Protocol.{Protocol}
use Rattle.kr_model.specs.Map.{Map, Changes, get, restore_all}
use Rattle.kr_model.specs.Locks.{Locks, Request, blockers, kept, release}
use Rattle.kr_model.specs.Plan.{plan_of, requests}
use Rattle.kr_model.specs.State.{State, Scan, standing}
use Rattle.kr_model.specs.Step.{Effect, Outcome, fetched, inserted, deleted, updated, looked, name_to_look, ended_with, granted_or_blocked, attempted, attempted_scan, one_taken_back, performed, refusal_of, unless_refused, step}
use Rattle.kr_model.specs.Run.{is_granted}

-- The state with other locks.
abbrev pub with_locks : State → Locks → State
with_locks s k = record s { locks = k }

-- The second outcome has the reply of the first, and its state but for the locks.
pub record IsSame (x y : Outcome) : Type 0 where
  pub locks : Locks
  pub same : ◌≡◌ {A = Outcome} y (x.0, with_locks x.1 locks)

-- An outcome is granted.
abbrev IsGranted : Outcome → Type 0
IsGranted x = IsTrue (is_granted x.0)

module _ (p q : Protocol) (s : State) (k : Locks) (t : ℕ) where
  abbrev z : State
  z = with_locks s k

  decided_same : (ra rb : List Request) (e : Effect) (us vs : List ℕ) → IsGranted (granted_or_blocked p s t ra e us) → IsGranted (granted_or_blocked q z t rb e vs) → IsSame (granted_or_blocked p s t ra e us) (granted_or_blocked q z t rb e vs)
  decided_same ra rb e [] [] g h = record { locks = kept q k t rb; same = refl }
  decided_same ra rb e [] (v ∷ vs) g h = absurd (cc)
  decided_same ra rb e (u ∷ us) vs g h = absurd (cc)

  attempt_same : (a : Step) (e : Effect) → IsGranted (attempted p s t a e) → IsGranted (attempted q z t a e) → IsSame (attempted p s t a e) (attempted q z t a e)
  attempt_same a e =
      let ra = requests (plan_of p s.map s.locks t a) in
      let rb = requests (plan_of q s.map k t a) in
      decided_same ra rb e (blockers p s.locks t ra) (blockers q k t rb)

  scan_same : (c : Option Scan) → IsGranted (attempted_scan p s t c) → IsGranted (attempted_scan q z t c) → IsSame (attempted_scan p s t c) (attempted_scan q z t c)
  scan_same None g h = absurd (cc)
  scan_same (Some c) g h = let n = name_to_look s.map c in attempt_same (attempt.Look n c.hi) (looked s.map (standing s t) c n) g h

  end_same : (r : Reply) (m : Map) → IsSame (r, ended_with s t m) (r, ended_with z t m)
  end_same r m = record { locks = release k t; same = refl }

  back_same : (cs : Changes) → IsSame (one_taken_back s t cs) (one_taken_back z t cs)
  back_same [] = record { locks = k; same = refl }
  back_same (c ∷ cs) = record { locks = k; same = refl }

  performed_same : (o : Op) → IsGranted (performed p s t o) → IsGranted (performed q z t o) → IsSame (performed p s t o) (performed q z t o)
  performed_same (op.Fetch c) g h = attempt_same (attempt.Fetch c) (fetched s.map (standing s t) (get s.map c)) g h
  performed_same (op.Scan lo hi) g h = scan_same (Some (record { lo = lo; hi = hi; rows = [] })) g h
  performed_same op.Go g h = scan_same (standing s t).scan g h
  performed_same (op.Insert c v) g h = attempt_same (attempt.Insert c) (inserted s.map (standing s t) c v (get s.map c)) g h
  performed_same (op.Delete c) g h = attempt_same (attempt.Delete c) (deleted s.map (standing s t) c (get s.map c)) g h
  performed_same (op.Update c v) g h = attempt_same (attempt.Update c) (updated s.map (standing s t) c v (get s.map c)) g h
  performed_same op.Commit g h = end_same reply.Committed s.map
  performed_same op.Abort g h = end_same reply.Aborted (restore_all s.map (standing s t).changes)
  performed_same op.Back g h = back_same (standing s t).changes

  unless_same : (o : Op) (a b : Option Refusal) → IsGranted (unless_refused p s t o a) → IsGranted (unless_refused q z t o b) → IsSame (unless_refused p s t o a) (unless_refused q z t o b)
  unless_same o (Some r) b g h = absurd (cc)
  unless_same o None (Some r) g h = absurd (cc)
  unless_same o None None g h = performed_same o g h

  pub step_same : (o : Op) → IsGranted (step p s t o) → IsGranted (step q z t o) → IsSame (step p s t o) (step q z t o)
  step_same o = unless_same o (refusal_of p s t o) (refusal_of q z t o)
