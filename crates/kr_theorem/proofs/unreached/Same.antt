-- The table does what its twin does: they convert otherwise only where K is requested on a key on which I is held, and that comes up in no run.
use Rattle.std.proofs.Common.{ℕ, ◌≡◌, refl, sym, ap, ◌∙◌, subst, arith, Bool, true, false, true≢false, List, [], ◌∷◌, Option, Some, None, is_some}
use Rattle.std.specs.Prelude.{◌==◌, ◌&&◌, ◌||◌, not, nat_le, filter, if◌then◌else◌}
use Rattle.std.specs.List.{list_any}
use Rattle.std.specs.Ordering.{nat_cmp}
use Rattle.std.specs.FinMap.{put}
use Rattle.std.proofs.lemmas.Bool.Decides.{nat_tests}
use Rattle.kr_model.specs.declared.Name.{Name}
use Rattle.kr_model.specs.declared.Name.TheVariants.{Key, End}
use Rattle.kr_model.specs.declared.Event.{Event}
use Rattle.kr_model.specs.declared.Op.{Op}
use Rattle.kr_model.specs.declared.Op.TheVariants as op
use Rattle.kr_model.specs.declared.Refusal.{Refusal}
use Rattle.kr_model.specs.declared.Row.TheVariants as row
use Rattle.kr_model.specs.declared.Span.TheVariants.{Commit}
use Rattle.kr_model.specs.declared.Step.TheVariants as attempt
use Rattle.kr_model.specs.Protocol.{Protocol}
use Rattle.kr_model.specs.Map.{get, at, after}
use Rattle.kr_model.specs.Locks.{Request, own, keep, kept, lockers, conflicts, blockers}
use Rattle.kr_model.specs.Plan.{Access, access, plan_by, requests}
use Rattle.kr_model.specs.State.{State, Scan, start, standing}
use Rattle.kr_model.specs.Step.{Effect, Outcome, fetched, inserted, deleted, updated, looked, granted_or_blocked, attempted, attempted_scan, name_to_look, performed, unless_refused, refusal_of, step}
use Rattle.kr_model.specs.Run.{Trace, run}
use Rattle.kr_model.specs.Serial.{IsSerialRun, RunsAreSerial}
use Rattle.kr_theorem.proofs.gaps.Maps.{has_none}
use Rattle.kr_theorem.specs.Unreached.{I, K, weak_after, unreached}
use Rattle.kr_theorem.proofs.unreached.Unsafe.{twin, twin_after, twin_runs}
use Rattle.kr_theorem.proofs.unreached.Reached.{Reached, reached_start}
use Rattle.kr_theorem.proofs.unreached.Steps.{step_keeps}

-- Where I isn't held, both convert alike.
alike : (h : ℕ) → (h ≡ I → ⊥) → weak_after h K ≡ twin_after h K
alike h d = grind (arith, nat_tests)

-- An attempt by these requests, under a protocol.
abbrev Tried : Protocol → State → ℕ → List Request → Effect → Outcome
Tried p s t rs e = granted_or_blocked p s t rs e (blockers p s.locks t rs)

-- Two attempts are alike where the same transactions block them, and they keep the same locks.
tried_alike : (s : State) (t : ℕ) (rs : List Request) (e : Effect) → blockers unreached s.locks t rs ≡ blockers twin s.locks t rs → kept unreached s.locks t rs ≡ kept twin s.locks t rs → Tried unreached s t rs e ≡ Tried twin s t rs e
tried_alike s t rs e same_blockers same_locks =
    ap (λ us. granted_or_blocked unreached s t rs e us) same_blockers ∙ by (blockers twin s.locks t rs)
  where
    by : (us : List ℕ) → granted_or_blocked unreached s t rs e us ≡ granted_or_blocked twin s t rs e us
    by [] = ap (λ l. let o : Outcome = (e.reply, record { map = e.map; locks = l; ended = s.ended; active = put nat_cmp t e.standing s.active }) in o) same_locks
    by (u ∷ us) = refl

-- A scan's look requests X alone.
look_alike : (s : State) (t : ℕ) (c : Scan) (n : Name) → attempted unreached s t (attempt.Look n c.hi) (looked s.map (standing s t) c n) ≡ attempted twin s t (attempt.Look n c.hi) (looked s.map (standing s t) c n)
look_alike s t c End = refl
look_alike s t c (Key k) = by (nat_le k c.hi) (looked s.map (standing s t) c (Key k))
  where
    by : (b : Bool) (e : Effect) → let a = if b then access row.ScanKey (Some (Key k)) None else access row.ScanStop None (Some (Key k)) in Tried unreached s t (requests (plan_by unreached s.locks t a)) e ≡ Tried twin s t (requests (plan_by twin s.locks t a)) e
    by true e = refl
    by false e = refl

-- So does a step of a scan.
scan_alike : (s : State) (t : ℕ) (c : Option Scan) → attempted_scan unreached s t c ≡ attempted_scan twin s t c
scan_alike s t None = refl
scan_alike s t (Some c) = look_alike s t c (name_to_look s.map c)

module _ (s : State) (was : Reached s) (t : ℕ) where
  -- An insert of an absent key requests K on it; its transaction holds no I there, since the key is absent.
  insert_alike : (k : ℕ) (e : Effect) → get s.map k ≡ None → let rs : List Request = (Key k, K, Commit) ∷ (at s.map k, I, Commit) ∷ [] in Tried unreached s t rs e ≡ Tried twin s t rs e
  insert_alike k e absent =
      let next : Request = (at s.map k, I, Commit) in
      let same = alike (own s.locks t (Key k)) (λ is. true≢false (sym (was.present t (Key k) is) ∙ has_none s.map k absent)) in
      tried_alike s t ((Key k, K, Commit) ∷ next ∷ []) e
      (ap (λ c. filter (λ u. (not (u == t) && not (twin.ok c (own s.locks u (Key k)))) || list_any (λ r. conflicts twin s.locks t r u) (next ∷ [])) (lockers s.locks)) same)
      (ap (λ c. kept twin (keep s.locks t (Key k) c) t (next ∷ [])) same)

  -- An attempt that goes by this row, under a protocol.
  abbrev ByRow : Protocol → Access → Effect → Outcome
  ByRow p a e = Tried p s t (requests (plan_by p s.locks t a)) e

  -- An operation that isn't refused: but for an insert, both protocols convert alike in it.
  performed_alike : (o : Op) → performed unreached s t o ≡ performed twin s t o
  performed_alike (op.Fetch k) = by (get s.map k)
    where
      by : (o : Option ℕ) → let a = if is_some o then access row.FetchHit (Some (Key k)) None else access row.FetchMiss None (Some (at s.map k)) in ByRow unreached a (fetched s.map (standing s t) o) ≡ ByRow twin a (fetched s.map (standing s t) o)
      by (Some v) = refl
      by None = refl
  performed_alike (op.Insert k v) = by (get s.map k) refl
    where
      by : (o : Option ℕ) → get s.map k ≡ o → let a = if is_some o then access row.FetchHit (Some (Key k)) None else access row.Insert (Some (Key k)) (Some (at s.map k)) in ByRow unreached a (inserted s.map (standing s t) k v o) ≡ ByRow twin a (inserted s.map (standing s t) k v o)
      by (Some w) e = refl
      by None e = insert_alike k (inserted s.map (standing s t) k v None) e
  performed_alike (op.Delete k) = by (get s.map k)
    where
      by : (o : Option ℕ) → let a = if is_some o then access row.Delete (Some (Key k)) (Some (after s.map k)) else access row.FetchMiss None (Some (at s.map k)) in ByRow unreached a (deleted s.map (standing s t) k o) ≡ ByRow twin a (deleted s.map (standing s t) k o)
      by (Some w) = refl
      by None = refl
  performed_alike (op.Update k v) = by (get s.map k)
    where
      by : (o : Option ℕ) → let a = if is_some o then access row.Update (Some (Key k)) None else access row.FetchMiss None (Some (at s.map k)) in ByRow unreached a (updated s.map (standing s t) k v o) ≡ ByRow twin a (updated s.map (standing s t) k v o)
      by (Some w) = refl
      by None = refl
  performed_alike (op.Scan lo hi) = scan_alike s t (Some (record { lo = lo; hi = hi; rows = [] }))
  performed_alike op.Go = scan_alike s t (standing s t).scan
  performed_alike op.Commit = refl
  performed_alike op.Abort = refl
  performed_alike op.Back = refl

  -- A step, refused or not: both refuse alike.
  step_alike : (o : Op) → step unreached s t o ≡ step twin s t o
  step_alike o = by (refusal_of twin s t o)
    where
      by : (r : Option Refusal) → unless_refused unreached s t o r ≡ unless_refused twin s t o r
      by (Some r) = refl
      by None = performed_alike o

-- Runs --

-- By induction on the events.
run_alike : (es : List Event) (s : State) → Reached s → run unreached s es ≡ run twin s es
run_alike [] s was = refl
run_alike (e ∷ es) s was =
    let o = step twin s e.txn e.op in
    ap (λ (x : Outcome). let rest = run unreached x.1 es in let r : Trace = record { history = (e, x.0) ∷ rest.history; state = rest.state } in r) (step_alike s was e.txn e.op)
    ∙ ap (λ (rest : Trace). let r : Trace = record { history = (e, o.0) ∷ rest.history; state = rest.state } in r) (run_alike es o.1 (step_keeps s was e.txn e.op))

-- So every run under the table is one under the twin.
pub runs : RunsAreSerial unreached
runs opening events sorted = subst (λ (r : Trace). IsSerialRun opening r) (sym (run_alike events (start opening) (reached_start opening sorted))) (twin_runs opening events sorted)
