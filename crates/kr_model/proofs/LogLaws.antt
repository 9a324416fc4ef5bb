-- The log of a run has the operations so far of each active transaction, and the committed programs.
use Rattle.std.specs.Prelude.{◌≡◌, ℕ, Bool, true, false, not, ◌==◌, ◌&&◌, cond, List, [], ◌∷◌, ◌++◌, Option, Some, None, is_some, unwrap_or, filter, map, refl, if◌then◌else◌, ◌⊎◌}
use Rattle.std.specs.Ordering.{nat_cmp, eq_by_cmp, is_lt}
use Rattle.std.specs.Cmp.{nat_cmp_total}
use Rattle.std.specs.FinMap.{find, put, is_sorted}
use Rattle.std.specs.FinMap.Entries.{same_entries, below_all}
use Rattle.std.proofs.lemmas.Map.Lookups.{exact_unsigned}
use Rattle.std.proofs.lemmas.Bool.{cases_eq}
use Rattle.std.proofs.Common.{sym, ◌∙◌, ap, ap₂, subst, append-nil, inl, inr, ⊎_elim}
use Rattle.kr_model.specs.declared.Op.TheVariants as op
use Rattle.kr_model.specs.declared.Event.{Event}
use Rattle.kr_model.specs.declared.Reply.{Reply}
use Rattle.kr_model.specs.declared.Reply.TheVariants as reply
use Rattle.kr_model.specs.Protocol.{Protocol}
use Rattle.kr_model.specs.Map.{Map}
use Rattle.kr_model.specs.State.{State, Active, start, active_of, is_rolling}
use Rattle.kr_model.specs.Step.{IsStep}
use Rattle.kr_model.specs.Run.{Entry, Answered, run, operations_of, programs, AreSteps}
use Rattle.kr_model.specs.Log.{Log, no_log, operations_so_far, without_backs, with_step, logged, log_after}
use Rattle.kr_model.proofs.MapLaws.{t_of}
use Rattle.kr_model.proofs.Actives.{find_put_same, find_put_other, false_true}
use Rattle.kr_model.proofs.RunLaws.{steps_of_run}
use Rattle.kr_model.proofs.LogReads.{append_entry}
use Rattle.kr_model.proofs.KindsOfSteps.{Kind, kind_of}
use Rattle.kr_model.proofs.Ends.{tied_key, same_some, same_without}
use Rattle.kr_model.proofs.LogSteps.{IsLog, told, logged_silent, log_silent, log_granted, log_end, log_back}

-- Each step keeps it.
log_step : (p : Protocol) (h : List Entry) (s : State) (l : Log) (e : Event) (a : Reply) (new : State) → IsStep p s e.txn e.op a new → IsLog h s l → IsLog (h ++ (e, a) ∷ []) new (logged l (e, a))
log_step p h s l e a new is k = by (kind_of p s e.txn e.op a new is)
  where
    by : Kind s e.txn e.op a new → IsLog (h ++ (e, a) ∷ []) new (logged l (e, a))
    by (inl g) = subst (λ z. IsLog (h ++ (e, a) ∷ []) z (logged l (e, a))) (sym g.0) (log_silent h s l e.txn e.op a g.1 k)
    by (inr (inl g)) = log_granted h s l e.txn e.op a new g k
    by (inr (inr (inl g))) = log_end h s l e.txn e.op a new g k
    by (inr (inr (inr g))) = log_back h s l e.txn e.op a new g k

log_steps : (p : Protocol) (h more : List Entry) (s : State) (l : Log) (new : State) → AreSteps p s more new → IsLog h s l → IsLog (h ++ more) new (log_after l more)
log_steps p h [] s l new are k = subst (λ z. IsLog (h ++ []) z l) (sym are) (subst (λ z. IsLog z s l) (sym (append-nil h)) k)
log_steps p h ((e, a) ∷ more) s l new (mid, are) k =
    subst (λ z. IsLog z new (log_after (logged l (e, a)) more)) (append_entry h (e, a) more)
    (log_steps p (h ++ (e, a) ∷ []) more mid (logged l (e, a)) new are.1 (log_step p h s l e a mid are.0 k))

log_at_start : (opening : Map) → IsLog [] (start opening) no_log
log_at_start opening = record {
  in_order = refl;
  log_in_order = refl;
  same = λ t. refl;
  works = λ t e. refl;
  reads = λ t e r. λ f. refl;
  forward = λ t. tt;
  rolled = λ t e r. absurd (cc);
  ended = tt;
  committed = refl;
}

found_as : (h : List Entry) (q : ℕ) (es : List (ℕ × Active)) → find nat_cmp q (map (λ a. (a.0, without_backs (operations_of a.0 h))) es) ≡ (if is_some (find nat_cmp q es) then Some (without_backs (operations_of q h)) else None)
found_as h q [] = refl
found_as h q (e ∷ es) = by (found_as h q es) (eq_by_cmp nat_cmp q e.0) refl
  where
    by : find nat_cmp q (map (λ a. (a.0, without_backs (operations_of a.0 h))) es) ≡ (if is_some (find nat_cmp q es) then Some (without_backs (operations_of q h)) else None) → (b : Bool) → eq_by_cmp nat_cmp q e.0 ≡ b
        → cond b (Some (without_backs (operations_of e.0 h))) (find nat_cmp q (map (λ a. (a.0, without_backs (operations_of a.0 h))) es)) ≡ (if is_some (cond b (Some e.1) (find nat_cmp q es)) then Some (without_backs (operations_of q h)) else None)
    by more true d = ap (λ z. Some (without_backs (operations_of z h))) (tied_key q e.0 d)
    by more false d = more

sorted_as : (h : List Entry) (es : List (ℕ × Active)) → is_sorted nat_cmp es ≡ true → is_sorted nat_cmp (map (λ a. (a.0, without_backs (operations_of a.0 h))) es) ≡ true
sorted_as h es e = alike es ∙ e
  where
    below : (k : ℕ) (es : List (ℕ × Active)) → below_all nat_cmp k (map (λ a. (a.0, without_backs (operations_of a.0 h))) es) ≡ below_all nat_cmp k es
    below k [] = refl
    below k (e ∷ es) = ap (λ b. is_lt (nat_cmp k e.0) && b) (below k es)

    alike : (es : List (ℕ × Active)) → is_sorted nat_cmp (map (λ a. (a.0, without_backs (operations_of a.0 h))) es) ≡ is_sorted nat_cmp es
    alike [] = refl
    alike (e ∷ es) = ap₂ (λ b c. b && c) (below e.0 es) (alike es)

unfinished_is : (h : List Entry) (s : State) (l : Log) → IsLog h s l → l.unfinished ≡ map (λ a. (a.0, without_backs (operations_of a.0 h))) s.active
unfinished_is h s l k =
    same_entries nat_cmp nat_cmp_total exact_unsigned l.unfinished (map (λ a. (a.0, without_backs (operations_of a.0 h))) s.active) (t_of _ k.log_in_order) (t_of _ (sorted_as h s.active k.in_order))
    (λ q. by q (find nat_cmp q l.unfinished) refl (active_of s q) refl ∙ sym (found_as h q s.active))
  where
    by : (q : ℕ) (x : Option (List Answered)) → find nat_cmp q l.unfinished ≡ x → (y : Option Active) → active_of s q ≡ y → find nat_cmp q l.unfinished ≡ (if is_some (active_of s q) then Some (without_backs (operations_of q h)) else None)
    by q None d None f = d ∙ sym (ap (λ z. if is_some z then Some (without_backs (operations_of q h)) else None) f)
    by q None d (Some a) f = absurd (false_true (is_some (active_of s q)) (sym (k.same q) ∙ ap is_some d) (ap is_some f))
    by q (Some os) d None f = absurd (false_true (is_some (active_of s q)) (ap is_some f) (sym (k.same q) ∙ ap is_some d))
    by q (Some os) d (Some a) f =
        let active : is_some (active_of s q) ≡ true = ap is_some f in
        d ∙ ap Some (sym (told h s l q k active ∙ ap (λ z. unwrap_or z []) d)) ∙ sym (ap (λ b. if b then Some (without_backs (operations_of q h)) else None) active)

-- A log has the operations so far of the active transactions, but for the changes undone, and the committed programs.
pub record LogOf (h : List Entry) (s : State) (l : Log) : Type 0 where
  pub unfinished : l.unfinished ≡ map (λ a. (a.0, without_backs (operations_of a.0 h))) s.active
  pub committed : l.committed ≡ programs h

-- The log of a history of steps is so; steps may have been refused memory.
pub log_of_steps : (p : Protocol) (opening : Map) (h : List Entry) (s : State) → AreSteps p (start opening) h s → LogOf h s (log_after no_log h)
log_of_steps p opening h s are =
    let l = log_after no_log h in
    let k = log_steps p [] h (start opening) no_log s are (log_at_start opening) in
    record { unfinished = unfinished_is h s l k; committed = k.committed }

-- So is the log of a run.
pub log_of_run : (p : Protocol) (opening : Map) (events : List Event) → let r = run p (start opening) events in LogOf r.history r.state (log_after no_log r.history)
log_of_run p opening events = let r = run p (start opening) events in log_of_steps p opening r.history r.state (steps_of_run p (start opening) events)

-- The log after these entries and one more.
pub log_after_one : (l : Log) (h : List Entry) (x : Entry) → log_after l (h ++ x ∷ []) ≡ logged (log_after l h) x
log_after_one l [] x = refl
log_after_one l (y ∷ h) x = log_after_one (logged l y) h x

-- A step keeps it so that the log has exactly the active transactions.
pub unfinished_after : (p : Protocol) (s : State) (l : Log) (e : Event) (a : Reply) (new : State) → IsStep p s e.txn e.op a new
    → ((t : ℕ) → is_some (find nat_cmp t l.unfinished) ≡ is_some (active_of s t))
    → (t : ℕ) → is_some (find nat_cmp t (logged l (e, a)).unfinished) ≡ is_some (active_of new t)
unfinished_after p s l e a new is same t = by (kind_of p s e.txn e.op a new is)
  where
    by : Kind s e.txn e.op a new → is_some (find nat_cmp t (logged l (e, a)).unfinished) ≡ is_some (active_of new t)
    by (inl g) = ap (λ z. is_some (find nat_cmp t z.unfinished)) (logged_silent l e a g.1) ∙ same t ∙ sym (ap (λ z. is_some (active_of z t)) g.0)
    by (inr (inl g)) =
        ap (λ z. is_some (find nat_cmp t z.unfinished)) (g.adds.logs l e.txn)
        ∙ same_some l.unfinished s.active e.txn t (with_step (operations_so_far l e.txn) e.op a) g.standing (same t) ∙ sym (ap (λ z. is_some (find nat_cmp t z)) g.active)
    by (inr (inr (inr g))) =
        ap (λ z. is_some (find nat_cmp t (logged l (e, z)).unfinished)) g.undone ∙ same t ∙ ⊎_elim
        (λ d. ap (λ z. is_some (active_of s z)) d ∙ g.present ∙ sym (ap is_some (ap (find nat_cmp t) g.active ∙ ap (λ z. find nat_cmp z (put nat_cmp e.txn g.standing s.active)) d ∙ find_put_same s.active e.txn g.standing)))
        (λ d. sym (ap is_some (ap (find nat_cmp t) g.active ∙ find_put_other s.active e.txn t g.standing d)))
        (cases_eq t e.txn)
    by (inr (inr (inl g))) = ending g.kept ∙ same_without l.unfinished s.active e.txn t (same t) ∙ sym (ap (λ z. is_some (find nat_cmp t z)) g.active)
      where
        ending : ((e.op ≡ op.Commit) × (a ≡ reply.Committed) × (is_rolling s e.txn ≡ false)) ⊎ (a ≡ reply.Aborted) → is_some (find nat_cmp t (logged l (e, a)).unfinished) ≡ is_some (find nat_cmp t (filter (λ x. not (x.0 == e.txn)) l.unfinished))
        ending (inl f) = ap (λ z. is_some (find nat_cmp t (logged l (e, z)).unfinished)) f.1
        ending (inr f) = ap (λ z. is_some (find nat_cmp t (logged l (e, z)).unfinished)) f
