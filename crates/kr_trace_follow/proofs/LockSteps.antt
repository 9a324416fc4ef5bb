-- What a step leaves of the locks.
use Rattle.std.specs.Prelude.{◌≡◌, ℕ, ◌<◌, Bool, true, false, not, ◌==◌, nat_le, cond, List, [], ◌∷◌, ◌++◌, Option, Some, None, unwrap_or, refl, option_map}
use Rattle.std.specs.Option.{option_to_list}
use Rattle.std.specs.FinMap.{find}
use Rattle.std.proofs.Common.{sym, ◌∙◌, ap, subst, ⊎_elim, arith}
use Rattle.kr_model.specs.declared.Name.{Name}
use Rattle.kr_model.specs.declared.Name.TheVariants.{Key, End}
use Rattle.kr_model.specs.declared.Op.{Op}
use Rattle.kr_model.specs.declared.Op.TheVariants as op
use Rattle.kr_model.specs.declared.Plan.{Plan}
use Rattle.kr_model.specs.declared.Refusal.{Refusal}
use Rattle.kr_model.specs.declared.Reply.TheVariants as reply
use Rattle.kr_model.specs.declared.Span.{Span}
use Rattle.kr_model.specs.declared.Span.TheVariants.{Instant, Commit}
use Rattle.kr_model.specs.declared.Step.{Step}
use Rattle.kr_model.specs.declared.Step.TheVariants as attempt
use Rattle.kr_model.specs.Protocol.{Protocol, IsLawful, IsMode}
use Rattle.kr_model.specs.Map.{Changes, get}
use Rattle.kr_model.specs.Locks.{Locks, Request, holder_cmp, own, keep, kept, kept_one, release, blockers}
use Rattle.kr_model.specs.Plan.{plan_of, requests, access_of}
use Rattle.kr_model.specs.State.{Scan, State, standing}
use Rattle.kr_model.specs.Step.{Outcome, step, refusal_of, unless_refused, performed, granted_or_blocked, attempted_scan, looked, fetched, inserted, deleted, updated, name_to_look, one_taken_back}
use Rattle.kr_model.specs.WellFormed.{IsState}
use Rattle.kr_model.proofs.Actives.{tied}
use Rattle.kr_model.proofs.Keep.{kept_mode}
use Rattle.kr_model.proofs.LockLaws.{own-keep_same, own-keep_other, own-release_other, find-release, name_or_not}
use Rattle.kr_model.proofs.Requests.{AskModes, AreLocks, asks_by, kept_locks}
use Rattle.kr_touch.specs.Attempts.{attempt_of}
use Rattle.kr_trace_follow.specs.Since.{has_ended, plan_at}

-- Requests that are kept --

-- A request isn't on this name.
abbrev pub IsNotOn : Name → Option Request → Type 0
IsNotOn n None = Unit {0}
IsNotOn n (Some r) = n ≡ r.0 → ⊥

-- None of the requests is.
abbrev AreNotOn : Name → List Request → Type 0
AreNotOn n [] = Unit {0}
AreNotOn n (r ∷ rs) = (n ≡ r.0 → ⊥) × AreNotOn n rs

-- The locks of others stay; so do those of t on names that neither request is on; and t keeps each lock in some mode.
pub record Leave (old new : Locks) (t : ℕ) (current next : Option Request) : Type 0 where
  pub others : (u : ℕ) (n : Name) → (u ≡ t → ⊥) → own new u n ≡ own old u n
  pub same : (n : Name) → IsNotOn n current → IsNotOn n next → own new t n ≡ own old t n
  pub holds : (n : Name) → own new t n ≡ 0 → own old t n ≡ 0

kept_other : (p : Protocol) (h : Locks) (t u : ℕ) (n : Name) (rs : List Request) → (u ≡ t → ⊥) → own (kept p h t rs) u n ≡ own h u n
kept_other p h t u n [] d = refl
kept_other p h t u n (r ∷ rs) d = kept_other p (kept_one p h t r.0 r.1 r.2) t u n rs d ∙ one r.2
  where
    one : (span : Span) → own (kept_one p h t r.0 r.1 span) u n ≡ own h u n
    one Instant = refl
    one Commit = own-keep_other h t r.0 (p.convert (own h t r.0) r.1) u n (λ _ same. d same)

kept_elsewhere : (p : Protocol) (h : Locks) (t : ℕ) (n : Name) (rs : List Request) → AreNotOn n rs → own (kept p h t rs) t n ≡ own h t n
kept_elsewhere p h t n [] away = refl
kept_elsewhere p h t n (r ∷ rs) away = kept_elsewhere p (kept_one p h t r.0 r.1 r.2) t n rs away.1 ∙ one r.2
  where
    one : (span : Span) → own (kept_one p h t r.0 r.1 span) t n ≡ own h t n
    one Instant = refl
    one Commit = own-keep_other h t r.0 (p.convert (own h t r.0) r.1) t n (λ same _. away.0 same)

one_holds : (p : Protocol) → IsLawful p → (h : Locks) (t : ℕ) (n m : Name) (q : ℕ) (span : Span) → AreLocks p h → IsMode p q → own (kept_one p h t m q span) t n ≡ 0 → own h t n ≡ 0
one_holds p laws h t n m q Instant locks mode none = none
one_holds p laws h t n m q Commit locks mode none = ⊎_elim here away (name_or_not n m)
  where
    new : ℕ
    new = p.convert (own h t m) q

    here : n ≡ m → own h t n ≡ 0
    here same =
        let positive : 0 < new = (kept_mode p (own h t m) q laws (locks.within t m) mode.some mode.in_range).some in
        let zero : new ≡ 0 = sym (own-keep_same h t m new) ∙ ap (λ z. own (keep h t m new) t z) (sym same) ∙ none in
        absurd (omega arith)

    away : (n ≡ m → ⊥) → own h t n ≡ 0
    away other = sym (own-keep_other h t m new t n (λ same _. other same)) ∙ none

kept_holds : (p : Protocol) → IsLawful p → (h : Locks) (t : ℕ) (n : Name) (rs : List Request) → AreLocks p h → AskModes p rs → own (kept p h t rs) t n ≡ 0 → own h t n ≡ 0
kept_holds p laws h t n [] locks modes none = none
kept_holds p laws h t n (r ∷ rs) locks modes none =
    one_holds p laws h t n r.0 r.1 r.2 locks modes.0 (kept_holds p laws (kept_one p h t r.0 r.1 r.2) t n rs (kept_locks p laws h t (r ∷ []) (modes.0, tt) locks) modes.1 none)

both_away : (n : Name) (c x : Option Request) → IsNotOn n c → IsNotOn n x → AreNotOn n (option_to_list c ++ option_to_list x)
both_away n None None a b = tt
both_away n None (Some r) a b = (b, tt)
both_away n (Some r) None a b = (a, tt)
both_away n (Some r) (Some q) a b = (a, (b, tt))

kept_leave : (p : Protocol) → IsLawful p → (s : State) (t : ℕ) (a : Step) → IsState p s
    → let plan = plan_of p s.map s.locks t a in Leave s.locks (kept p s.locks t (requests plan)) t plan.current plan.next
kept_leave p laws s t a is =
    let plan = plan_of p s.map s.locks t a in
    let locks : AreLocks p s.locks = record { rise = is.are_locks; within = is.within; no_none = is.no_none } in
    record {
      others = λ u n d. kept_other p s.locks t u n (requests plan) d;
      same = λ n c x. kept_elsewhere p s.locks t n (requests plan) (both_away n plan.current plan.next c x);
      holds = λ n none. kept_holds p laws s.locks t n (requests plan) locks (asks_by p laws s.locks is.within t (access_of s.map a)) none;
    }

stay : (h : Locks) (t : ℕ) (c x : Option Request) → Leave h h t c x
stay h t c x = record { others = λ u n d. refl; same = λ n a b. refl; holds = λ n none. none }

-- Steps --

-- The locks of others stay, and t holds none.
pub record Ends (old new : Locks) (t : ℕ) : Type 0 where
  pub others : (u : ℕ) (n : Name) → (u ≡ t → ⊥) → own new u n ≡ own old u n
  pub none : (n : Name) → own new t n ≡ 0

-- What a step leaves of the locks, by what it requests, if anything.
abbrev pub LeaveBy : Locks → Locks → ℕ → Option Plan → Type 0
LeaveBy old new t None = Leave old new t None None
LeaveBy old new t (Some plan) = Leave old new t plan.current plan.next

-- The same by whether it ends its transaction.
abbrev pub Left : Locks → Locks → ℕ → Option Plan → Bool → Type 0
Left old new t plan true = Ends old new t
Left old new t plan false = LeaveBy old new t plan

abbrev pub LeftAfter : State → ℕ → Option Plan → Outcome → Type 0
LeftAfter s t plan done = let new = done.1 in Left s.locks new.locks t plan (has_ended done.0)

stays : (s : State) (t : ℕ) (plan : Option Plan) → LeaveBy s.locks s.locks t plan
stays s t None = stay s.locks t None None
stays s t (Some plan) = stay s.locks t plan.current plan.next

module _ (p : Protocol) (laws : IsLawful p) (s : State) (t : ℕ) (is : IsState p s) where
  -- the plan of an attempt
  abbrev plan_by : Step → Plan
  plan_by a = plan_of p s.map s.locks t a

  fetch_left : (k : ℕ) (g : Option ℕ) (us : List ℕ) → let plan = plan_by (attempt.Fetch k) in LeftAfter s t (Some plan) (granted_or_blocked p s t (requests plan) (fetched s.map (standing s t) g) us)
  fetch_left k g (u ∷ us) = stays s t (Some (plan_by (attempt.Fetch k)))
  fetch_left k (Some v) [] = kept_leave p laws s t (attempt.Fetch k) is
  fetch_left k None [] = kept_leave p laws s t (attempt.Fetch k) is

  insert_left : (k v : ℕ) (g : Option ℕ) (us : List ℕ) → let plan = plan_by (attempt.Insert k) in LeftAfter s t (Some plan) (granted_or_blocked p s t (requests plan) (inserted s.map (standing s t) k v g) us)
  insert_left k v g (u ∷ us) = stays s t (Some (plan_by (attempt.Insert k)))
  insert_left k v (Some w) [] = kept_leave p laws s t (attempt.Insert k) is
  insert_left k v None [] = kept_leave p laws s t (attempt.Insert k) is

  delete_left : (k : ℕ) (g : Option ℕ) (us : List ℕ) → let plan = plan_by (attempt.Delete k) in LeftAfter s t (Some plan) (granted_or_blocked p s t (requests plan) (deleted s.map (standing s t) k g) us)
  delete_left k g (u ∷ us) = stays s t (Some (plan_by (attempt.Delete k)))
  delete_left k (Some w) [] = kept_leave p laws s t (attempt.Delete k) is
  delete_left k None [] = kept_leave p laws s t (attempt.Delete k) is

  update_left : (k v : ℕ) (g : Option ℕ) (us : List ℕ) → let plan = plan_by (attempt.Update k) in LeftAfter s t (Some plan) (granted_or_blocked p s t (requests plan) (updated s.map (standing s t) k v g) us)
  update_left k v g (u ∷ us) = stays s t (Some (plan_by (attempt.Update k)))
  update_left k v (Some w) [] = kept_leave p laws s t (attempt.Update k) is
  update_left k v None [] = kept_leave p laws s t (attempt.Update k) is

  -- a granted step of a scan leaves the locks by its plan, whatever it answers
  look_by : (c : Scan) (n : Name) (k v : ℕ) (within at_end : Bool) → let plan = plan_by (attempt.Look n c.hi) in let rows = c.rows ++ (k, v) ∷ [] in
      LeftAfter s t (Some plan) (granted_or_blocked p s t (requests plan)
      (cond within (cond at_end (record { reply = reply.Rows rows; map = s.map; standing = record (standing s t) { scan = None } })
      (record { reply = reply.Going k; map = s.map; standing = record (standing s t) { scan = Some (record { lo = c.lo; hi = c.hi; rows = rows }) } }))
      (record { reply = reply.Rows c.rows; map = s.map; standing = record (standing s t) { scan = None } })) [])
  look_by c n k v true true = kept_leave p laws s t (attempt.Look n c.hi) is
  look_by c n k v true false = kept_leave p laws s t (attempt.Look n c.hi) is
  look_by c n k v false at_end = kept_leave p laws s t (attempt.Look n c.hi) is

  look_left : (c : Scan) (n : Name) (us : List ℕ) → let plan = plan_by (attempt.Look n c.hi) in LeftAfter s t (Some plan) (granted_or_blocked p s t (requests plan) (looked s.map (standing s t) c n) us)
  look_left c n (u ∷ us) = stays s t (Some (plan_by (attempt.Look n c.hi)))
  look_left c End [] = kept_leave p laws s t (attempt.Look End c.hi) is
  look_left c (Key k) [] = look_by c (Key k) k (unwrap_or (get s.map k) 0) (nat_le k c.hi) (k == c.hi)

  go_left : (c : Option Scan) → (standing s t).scan ≡ c → LeftAfter s t (plan_at p s t op.Go) (attempted_scan p s t c)
  go_left None e = stays s t (plan_at p s t op.Go)
  go_left (Some c) e =
      let n = name_to_look s.map c in
      let plan = plan_by (attempt.Look n c.hi) in
      subst (λ z. LeftAfter s t (option_map (plan_of p s.map s.locks t) (attempt_of s.map z op.Go)) (attempted_scan p s t (Some c))) (sym e) (look_left c n (blockers p s.locks t (requests plan)))

  back_left : (cs : Changes) → LeftAfter s t None (one_taken_back s t cs)
  back_left [] = stays s t None
  back_left (c ∷ cs) = stays s t None

  ended_left : Ends s.locks (release s.locks t) t
  ended_left = record {
    others = λ u n d. own-release_other s.locks t u n d;
    none = λ n. ap (λ o. unwrap_or o 0) (find-release s.locks t (n, t) ∙ ap (λ b. cond (not b) (find holder_cmp (n, t) s.locks) None) (tied t));
  }

  performed_left : (o : Op) → LeftAfter s t (plan_at p s t o) (performed p s t o)
  performed_left (op.Fetch k) = fetch_left k (get s.map k) (blockers p s.locks t (requests (plan_by (attempt.Fetch k))))
  performed_left (op.Insert k v) = insert_left k v (get s.map k) (blockers p s.locks t (requests (plan_by (attempt.Insert k))))
  performed_left (op.Delete k) = delete_left k (get s.map k) (blockers p s.locks t (requests (plan_by (attempt.Delete k))))
  performed_left (op.Update k v) = update_left k v (get s.map k) (blockers p s.locks t (requests (plan_by (attempt.Update k))))
  performed_left (op.Scan lo hi) =
      let c : Scan = record { lo = lo; hi = hi; rows = [] } in
      let n = name_to_look s.map c in
      look_left c n (blockers p s.locks t (requests (plan_by (attempt.Look n hi))))
  performed_left op.Go = go_left (standing s t).scan refl
  performed_left op.Commit = ended_left
  performed_left op.Abort = ended_left
  performed_left op.Back = back_left (standing s t).changes

  unless_left : (o : Op) (r : Option Refusal) → LeftAfter s t (plan_at p s t o) (unless_refused p s t o r)
  unless_left o (Some r) = stays s t (plan_at p s t o)
  unless_left o None = performed_left o

  -- What a step leaves of the locks.
  pub step_left : (o : Op) → LeftAfter s t (plan_at p s t o) (step p s t o)
  step_left o = unless_left o (refusal_of p s t o)
