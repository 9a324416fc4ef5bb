-- Every state that a run reaches is well formed.
use Rattle.std.specs.Prelude.{◌≡◌, ℕ, ◌+◌, ◌≤◌, ◌<◌, Bool, true, false, not, ◌&&◌, ◌||◌, ◌==◌, nat_le, cond, List, [], ◌∷◌, Option, Some, None, length, is_some, unwrap_or, refl}
use Rattle.std.specs.Ordering.{nat_cmp}
use Rattle.std.specs.Cmp.{nat_cmp_total}
use Rattle.std.specs.FinMap.{find, put, is_sorted}
use Rattle.std.specs.FinMap.Entries.{length-put}
use Rattle.std.proofs.Common.{sym, ◌∙◌, ap, subst, arith, inl, inr}
use Rattle.std.proofs.lemmas.Bool.Decides.{nat_tests}
use Rattle.kr_model.specs.declared.Name.{Name}
use Rattle.kr_model.specs.declared.Name.TheVariants.{Key, End}
use Rattle.kr_model.specs.declared.Step.{Step}
use Rattle.kr_model.specs.declared.Step.TheVariants as attempt
use Rattle.kr_model.specs.declared.Op.{Op}
use Rattle.kr_model.specs.declared.Op.TheVariants as op
use Rattle.kr_model.specs.declared.Event.{Event}
use Rattle.kr_model.specs.declared.Reply.{Reply}
use Rattle.kr_model.specs.declared.Refusal.{Refusal}
use Rattle.kr_model.specs.declared.Refusal.TheVariants as refusal
use Rattle.kr_model.specs.Protocol.{Protocol, IsLawful}
use Rattle.kr_model.specs.Map.{Map, Changes, IsMap, get, restore_all}
use Rattle.kr_model.specs.Locks.{Request, blockers}
use Rattle.kr_model.specs.Plan.{plan_of, access_of, requests}
use Rattle.kr_model.specs.State.{State, Active, Scan, start, active_of, standing, has_ended}
use Rattle.kr_model.specs.Step.{Effect, Outcome, is_full, refusal_of, fetched, inserted, deleted, updated, looked, row_read, name_to_look, granted_or_blocked, attempted, attempted_scan, ended_with, one_taken_back, performed, unless_refused, step, IsStep}
use Rattle.kr_model.specs.Run.{Entry, run, AreSteps}
use Rattle.kr_model.specs.WellFormed.{IsState}
use Rattle.kr_model.proofs.MapLaws.{t_of, sorted_put, sorted_where, IsMap-set, IsMap-without}
use Rattle.kr_model.proofs.UndoLaws.{IsMap-restore, IsMap-restore_all}
use Rattle.kr_model.proofs.Numbers.{increasing_add}
use Rattle.kr_model.proofs.Actives.{any_add_once, find_put_other, find_filter, length_filter, false_true}
use Rattle.kr_model.proofs.Requests.{AskModes, asks_by, AreLocks, kept_locks, released_locks}
use Rattle.kr_model.proofs.KindsOfSteps.{not_refused}
use Rattle.kr_model.proofs.RunLaws.{steps_of_run}

-- The start --

-- the state at the start is well formed
pub start_is_state : (p : Protocol) (opening : Map) → IsMap opening → IsState p (start opening)
start_is_state p opening is_map = record {
  is_map = is_map;
  are_locks = refl;
  within = λ t n. omega arith;
  no_none = λ k h. none_some h;
  ended = λ k lt. absurd (omega arith);
  active = refl;
  few = omega arith;
  apart = λ t e. refl;
}
  where
    none_some : ◌≡◌ {A = Option ℕ} None (Some 0) → ⊥
    none_some h = cc

-- The index after an attempt --

fetch_map : (m : Map) (a : Active) (g : Option ℕ) → IsMap m → IsMap (let e = fetched m a g in e.map)
fetch_map m a None h = h
fetch_map m a (Some v) h = h

insert_map : (m : Map) (a : Active) (k v : ℕ) (g : Option ℕ) → IsMap m → IsMap (let e = inserted m a k v g in e.map)
insert_map m a k v None h = IsMap-set m k v h
insert_map m a k v (Some w) h = h

delete_map : (m : Map) (a : Active) (k : ℕ) (g : Option ℕ) → IsMap m → IsMap (let e = deleted m a k g in e.map)
delete_map m a k None h = h
delete_map m a k (Some w) h = IsMap-without m k h

update_map : (m : Map) (a : Active) (k v : ℕ) (g : Option ℕ) → IsMap m → IsMap (let e = updated m a k v g in e.map)
update_map m a k v None h = h
update_map m a k v (Some w) h = IsMap-set m k v h

look_map : (m : Map) (a : Active) (c : Scan) (n : Name) → IsMap m → IsMap (let e = looked m a c n in e.map)
look_map m a c End h = h
look_map m a c (Key k) h = by (nat_le k c.hi) refl
  where
    ends : (x : Bool) → k == c.hi ≡ x → IsMap (let e = row_read m a c k (unwrap_or (get m k) 0) in e.map)
    ends true e = rw e h
    ends false e = rw e h

    by : (x : Bool) → nat_le k c.hi ≡ x → IsMap (let e = looked m a c (Key k) in e.map)
    by true e = rw e (ends (k == c.hi) refl)
    by false e = rw e h

-- What a step keeps --

module _ (p : Protocol) (laws : IsLawful p) (s : State) (t : ℕ) (k : IsState p s) where
  locks_of : AreLocks p s.locks
  locks_of = record { rise = k.are_locks; within = k.within; no_none = k.no_none }

  one_more : is_full s t ≡ false → (a : Active) → length (put nat_cmp t a s.active) ≤ 64
  one_more room a = by (is_some (active_of s t)) refl (length-put nat_cmp nat_cmp_total t a s.active (t_of (is_sorted nat_cmp s.active) k.active))
    where
      not_full : (n : ℕ) → (true && nat_le 64 n) ≡ false → n < 64
      not_full n h = grind (arith, nat_tests, h)

      by : (b : Bool) → is_some (active_of s t) ≡ b → length (put nat_cmp t a s.active) ≡ cond (is_some (active_of s t)) (length s.active) (length s.active + 1) → length (put nat_cmp t a s.active) ≤ 64
      by true e h = let is = h ∙ ap (λ b. cond b (length s.active) (length s.active + 1)) e in let few = k.few in omega (arith, is, few)
      by false e h =
          let is = h ∙ ap (λ b. cond b (length s.active) (length s.active + 1)) e in
          let below = not_full (length s.active) (sym (ap (λ b. not b && nat_le 64 (length s.active)) e) ∙ room) in
          omega (arith, is, below)

  still_apart : has_ended s t ≡ false → (a : Active) (u : ℕ) → has_ended s u ≡ true → find nat_cmp u (put nat_cmp t a s.active) ≡ None
  still_apart works a u over = find_put_other s.active t u a (λ same. false_true (has_ended s t) works (sym (ap (has_ended s) same) ∙ over)) ∙ k.apart u over

  -- a granted attempt, or one that is blocked
  attempt_keeps : has_ended s t ≡ false → is_full s t ≡ false → (rs : List Request) (e : Effect) → AskModes p rs → IsMap e.map → (us : List ℕ) → IsState p (granted_or_blocked p s t rs e us).1
  attempt_keeps works room rs e asked is_map (u ∷ us) = k
  attempt_keeps works room rs e asked is_map [] =
      let locks = kept_locks p laws s.locks t rs asked locks_of in
      record {
        is_map = is_map;
        are_locks = locks.rise;
        within = locks.within;
        no_none = locks.no_none;
        ended = k.ended;
        active = sorted_put t e.standing s.active k.active;
        few = one_more room e.standing;
        apart = still_apart works e.standing;
      }

  step_keeps : has_ended s t ≡ false → is_full s t ≡ false → (a : Step) (e : Effect) → IsMap e.map → IsState p (attempted p s t a e).1
  step_keeps works room a e is_map =
      let rs = requests (plan_of p s.map s.locks t a) in
      attempt_keeps works room rs e (asks_by p laws s.locks k.within t (access_of s.map a)) is_map (blockers p s.locks t rs)

  scan_keeps : has_ended s t ≡ false → is_full s t ≡ false → (c : Option Scan) → IsState p (attempted_scan p s t c).1
  scan_keeps works room None = k
  scan_keeps works room (Some c) =
      let n = name_to_look s.map c in
      step_keeps works room (attempt.Look n c.hi) (looked s.map (standing s t) c n) (look_map s.map (standing s t) c n k.is_map)

  -- a change undone
  back_keeps : has_ended s t ≡ false → is_full s t ≡ false → (cs : Changes) → IsState p (one_taken_back s t cs).1
  back_keeps works room [] = k
  back_keeps works room (c ∷ cs) =
      let a : Active = record { scan = None; changes = cs; rolling = true } in
      record {
        is_map = IsMap-restore s.map c.0 c.1 k.is_map;
        are_locks = k.are_locks;
        within = k.within;
        no_none = k.no_none;
        ended = k.ended;
        active = sorted_put t a s.active k.active;
        few = one_more room a;
        apart = still_apart works a;
      }

  -- an end
  end_keeps : (m : Map) → IsMap m → IsState p (ended_with s t m)
  end_keeps m is_map =
      let locks = released_locks p s.locks t locks_of in
      record {
        is_map = is_map;
        are_locks = locks.rise;
        within = locks.within;
        no_none = locks.no_none;
        ended = increasing_add t s.ended k.ended;
        active = sorted_where (λ x. not (x == t)) s.active k.active;
        few = let fewer = length_filter (λ (e : ℕ × Active). not (e.0 == t)) s.active in let few = k.few in omega (arith, fewer, few);
        apart = λ u over. find_filter s.active t u ∙ by u (u == t) refl (sym (any_add_once (λ v. v == u) t s.ended) ∙ over);
      }
    where
      turned : (u t : ℕ) → (u == t) ≡ false → (t == u) ≡ false
      turned u t e = grind (arith, nat_tests)

      second : (a b : Bool) → a ≡ false → (a || b) ≡ true → b ≡ true
      second true b e h = absurd (cc)
      second false b e h = h

      by : (u : ℕ) (b : Bool) → (u == t) ≡ b → ((t == u) || has_ended s u) ≡ true → cond (not (u == t)) (active_of s u) None ≡ None
      by u true e over = ap (λ b. cond (not b) (active_of s u) None) e
      by u false e over = ap (λ b. cond (not b) (active_of s u) None) e ∙ k.apart u (second (t == u) (has_ended s u) (turned u t e) over)

  performed_keeps : has_ended s t ≡ false → is_full s t ≡ false → (o : Op) → IsState p (performed p s t o).1
  performed_keeps works room (op.Fetch q) = step_keeps works room (attempt.Fetch q) (fetched s.map (standing s t) (get s.map q)) (fetch_map s.map (standing s t) (get s.map q) k.is_map)
  performed_keeps works room (op.Scan lo hi) = scan_keeps works room (Some (record { lo = lo; hi = hi; rows = [] }))
  performed_keeps works room op.Go = scan_keeps works room (standing s t).scan
  performed_keeps works room (op.Insert q v) = step_keeps works room (attempt.Insert q) (inserted s.map (standing s t) q v (get s.map q)) (insert_map s.map (standing s t) q v (get s.map q) k.is_map)
  performed_keeps works room (op.Delete q) = step_keeps works room (attempt.Delete q) (deleted s.map (standing s t) q (get s.map q)) (delete_map s.map (standing s t) q (get s.map q) k.is_map)
  performed_keeps works room (op.Update q v) = step_keeps works room (attempt.Update q) (updated s.map (standing s t) q v (get s.map q)) (update_map s.map (standing s t) q v (get s.map q) k.is_map)
  performed_keeps works room op.Back = back_keeps works room (standing s t).changes
  performed_keeps works room op.Commit = end_keeps s.map k.is_map
  performed_keeps works room op.Abort = end_keeps (restore_all s.map (standing s t).changes) (IsMap-restore_all s.map (standing s t).changes k.is_map)

  unless_keeps : (o : Op) (r : Option Refusal) → refusal_of p s t o ≡ r → IsState p (unless_refused p s t o r).1
  unless_keeps o (Some r) e = k
  unless_keeps o None e =
      let ended = not_refused (has_ended s t) refusal.Ended _ e in
      let full = not_refused (is_full s t) refusal.Full _ ended.1 in
      performed_keeps ended.0 full.0 o

-- under a lawful protocol every step keeps a state well formed
pub step_keeps_state : (p : Protocol) → IsLawful p → (s : State) (t : ℕ) (o : Op) → IsState p s → IsState p (let r = step p s t o in r.1)
step_keeps_state p laws s t o k = unless_keeps p laws s t k o (refusal_of p s t o) refl

-- so does one that may have been refused memory
pub is_step_keeps_state : (p : Protocol) → IsLawful p → (s : State) (t : ℕ) (o : Op) (r : Reply) (new : State) → IsState p s → IsStep p s t o r new → IsState p new
is_step_keeps_state p laws s t o r new k (inl e) = subst (IsState p) (sym (ap (λ (x : Outcome). x.1) e)) (step_keeps_state p laws s t o k)
is_step_keeps_state p laws s t o r new k (inr b) = subst (IsState p) (sym b.1) k

-- and so do many
pub steps_keep_state : (p : Protocol) → IsLawful p → (s : State) (h : List Entry) (new : State) → IsState p s → AreSteps p s h new → IsState p new
steps_keep_state p laws s [] new k are = subst (IsState p) (sym are) k
steps_keep_state p laws s ((e, r) ∷ rest) new k (mid, are) = steps_keep_state p laws mid rest new (is_step_keeps_state p laws s e.txn e.op r mid k are.0) are.1

-- every state that a run reaches from an opening map is well formed
pub run_is_state : (p : Protocol) → IsLawful p → (opening : Map) (events : List Event) → IsMap opening → IsState p (let r = run p (start opening) events in r.state)
run_is_state p laws opening events is_map =
    let r = run p (start opening) events in
    steps_keep_state p laws (start opening) r.history r.state (start_is_state p opening is_map) (steps_of_run p (start opening) events)
