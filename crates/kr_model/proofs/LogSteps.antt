-- What each kind of step does to the log of a run.
use Rattle.std.specs.Prelude.{◌≡◌, ℕ, Bool, true, false, not, ◌==◌, ◌&&◌, ◌||◌, cond, List, [], ◌∷◌, ◌++◌, Some, None, is_some, unwrap_or, map, refl, ◌⊎◌}
use Rattle.std.specs.List.{list_any}
use Rattle.std.specs.Ordering.{nat_cmp}
use Rattle.std.specs.FinMap.{find, put, is_sorted}
use Rattle.std.proofs.lemmas.Bool.{cases_eq}
use Rattle.std.proofs.Common.{sym, ◌∙◌, ap, ap₂, subst, append-nil, inl, inr, ⊎_elim}
use Rattle.kr_model.specs.declared.Op.{Op}
use Rattle.kr_model.specs.declared.Op.TheVariants as op
use Rattle.kr_model.specs.declared.Event.{Event}
use Rattle.kr_model.specs.declared.Reply.{Reply}
use Rattle.kr_model.specs.declared.Reply.TheVariants as reply
use Rattle.kr_model.specs.State.{State, idle, active_of, has_ended, is_scanning, is_rolling}
use Rattle.kr_model.specs.Run.{Entry, Answered, Program, operations_of, first_rows, committed, programs, is_rows, is_committed, is_operation, is_granted}
use Rattle.kr_model.specs.Log.{Log, operations_so_far, without_backs, with_step, step_logged, end_logged, logged}
use Rattle.kr_model.proofs.MapLaws.{sorted_put, sorted_where}
use Rattle.kr_model.proofs.Actives.{tied, untied, any_add_once, or_true, find_put_same, find_put_other, find_filter, find_filter_other, false_true}
use Rattle.kr_model.proofs.LogReads.{event, turned, ReadsAs, IsSilent, IsRowless, silent_other, silent_by, silent_refused, back_past, operations_kept, reads_silent, reads_whole, IsForward, forward_kept, forward_step}
use Rattle.kr_model.proofs.KindsOfSteps.{IsGranted, IsEnd, IsBack}
use Rattle.kr_model.proofs.Ends.{map_append, or_left, or_none, same_some, same_without}
use Rattle.kr_model.proofs.ProgramLaws.{committed_with, program_in, HaveEnded, ended_stay, ended_more, programs_stay}

-- What holds of a log after each step: it has the active transactions, and what each has done so far but for the changes undone; and the programs that have committed.
pub record IsLog (h : List Entry) (s : State) (l : Log) : Type 0 where
  pub in_order : is_sorted nat_cmp s.active ≡ true
  pub log_in_order : is_sorted nat_cmp l.unfinished ≡ true
  pub same : (t : ℕ) → is_some (find nat_cmp t l.unfinished) ≡ is_some (active_of s t)
  pub works : (t : ℕ) → is_some (active_of s t) ≡ true → has_ended s t ≡ false
  pub reads : (t : ℕ) → has_ended s t ≡ false → is_rolling s t ≡ false → ReadsAs t h (operations_so_far l t) (is_scanning s t)
  pub forward : (t : ℕ) → IsForward (operations_so_far l t)
  pub rolled : (t : ℕ) → is_some (active_of s t) ≡ true → is_rolling s t ≡ true → without_backs (operations_of t h) ≡ operations_so_far l t
  pub ended : HaveEnded s (committed h)
  pub committed : l.committed ≡ programs h

-- What an active transaction has done so far, whether it rolls back or not.
pub told : (h : List Entry) (s : State) (l : Log) (t : ℕ) → IsLog h s l → is_some (active_of s t) ≡ true → without_backs (operations_of t h) ≡ operations_so_far l t
told h s l t k present = by (is_rolling s t) refl
  where
    by : (b : Bool) → is_rolling s t ≡ b → without_backs (operations_of t h) ≡ operations_so_far l t
    by true e = k.rolled t present e
    by false e = ap without_backs (reads_whole t h (operations_so_far l t) (is_scanning s t) (k.reads t (k.works t present) e)) ∙ forward_kept (operations_so_far l t) (k.forward t)

pub logged_silent : (l : Log) (e : Event) (a : Reply) → is_granted a ≡ false → logged l (e, a) ≡ l
logged_silent l e (reply.Blocked us) h = refl
logged_silent l e (reply.Refused r) h = refl
logged_silent l e _ h = absurd (cc)

not_committed : (a : Reply) → is_granted a ≡ false → is_committed a ≡ false
not_committed reply.Committed h = absurd (cc)
not_committed _ h = refl

-- A step that changes nothing.
pub log_silent : (h : List Entry) (s : State) (l : Log) (t : ℕ) (o : Op) (a : Reply) → is_granted a ≡ false → IsLog h s l → IsLog (h ++ (event t o, a) ∷ []) s (logged l (event t o, a))
log_silent h s l t o a g k =
    let x : Entry = (event t o, a) in
    let silent : (u : ℕ) → IsSilent u x = λ u. silent_refused u (event t o) a g in
    let listed : committed (h ++ x ∷ []) ≡ committed h = committed_with h x false (not_committed a g) ∙ append-nil (committed h) in
    subst (λ z. IsLog (h ++ x ∷ []) s z) (sym (logged_silent l (event t o) a g)) record {
      in_order = k.in_order;
      log_in_order = k.log_in_order;
      same = k.same;
      works = k.works;
      reads = λ u e r. reads_silent u h x (operations_so_far l u) (is_scanning s u) (silent u) (k.reads u e r);
      forward = k.forward;
      rolled = λ u e r. ap without_backs (operations_kept u x h (silent u)) ∙ k.rolled u e r;
      ended = subst (λ z. HaveEnded s z) (sym listed) k.ended;
      committed = k.committed ∙ sym (programs_stay s h x (committed h) k.ended (λ u e. silent u)) ∙ sym (ap (map (program_in (h ++ x ∷ []))) listed);
    }

-- A step that is granted.
pub log_granted : (h : List Entry) (s : State) (l : Log) (t : ℕ) (o : Op) (a : Reply) (new : State) → IsGranted s t o a new → IsLog h s l → IsLog (h ++ (event t o, a) ∷ []) new (logged l (event t o, a))
log_granted h s l t o a new g k =
    let x : Entry = (event t o, a) in
    let os = with_step (operations_so_far l t) o a in
    let other : (u : ℕ) → (u ≡ t → ⊥) → IsSilent u x = λ u d. silent_other u (event t o) a (turned t u ∙ untied u t d) in
    let apart : (u : ℕ) → has_ended s u ≡ true → u ≡ t → ⊥ = λ u e d. false_true (has_ended s t) g.works (ap (has_ended s) (sym d) ∙ e) in
    let listed : committed (h ++ x ∷ []) ≡ committed h = committed_with h x false g.adds.stays ∙ append-nil (committed h) in
    let ends : (u : ℕ) → has_ended new u ≡ has_ended s u = λ u. ap (list_any (λ v. v == u)) g.ended in
    subst (λ z. IsLog (h ++ x ∷ []) new z) (sym (g.adds.logs l t)) record {
      in_order = ap (is_sorted nat_cmp) g.active ∙ sorted_put t g.standing s.active k.in_order;
      log_in_order = sorted_put t os l.unfinished k.log_in_order;
      same = λ u. same_some l.unfinished s.active t u os g.standing (k.same u) ∙ sym (ap (λ z. is_some (find nat_cmp u z)) g.active);
      works = λ u e. ends u ∙ works_by u (cases u t) (sym (ap (λ z. is_some (find nat_cmp u z)) g.active) ∙ e);
      reads = λ u e r. reads_by u (cases u t) (sym (ends u) ∙ e) r;
      forward = λ u. forward_by u (cases u t);
      rolled = λ u e r. rolled_by u (cases u t) e r;
      ended = subst (λ z. HaveEnded new z) (sym listed) (ended_stay s new (committed h) (λ u e. ends u ∙ e) k.ended);
      committed = k.committed ∙ sym (programs_stay s h x (committed h) k.ended (λ u e. other u (apart u e))) ∙ sym (ap (map (program_in (h ++ x ∷ []))) listed);
    }
  where
    cases : (u t : ℕ) → (u ≡ t) ⊎ (u ≡ t → ⊥)
    cases u t = cases_eq u t

    works_by : (u : ℕ) → (u ≡ t) ⊎ (u ≡ t → ⊥) → is_some (find nat_cmp u (put nat_cmp t g.standing s.active)) ≡ true → has_ended s u ≡ false
    works_by u (inl d) e = ap (has_ended s) d ∙ g.works
    works_by u (inr d) e = k.works u (sym (ap is_some (find_put_other s.active t u g.standing d)) ∙ e)

    reads_by : (u : ℕ) → (u ≡ t) ⊎ (u ≡ t → ⊥) → has_ended s u ≡ false → is_rolling new u ≡ false → ReadsAs u (h ++ (event t o, a) ∷ []) (operations_so_far (step_logged l t o a) u) (is_scanning new u)
    reads_by u (inl d) e r =
        let now : active_of new t ≡ Some g.standing = ap (find nat_cmp t) g.active ∙ find_put_same s.active t g.standing in
        subst (λ z. ReadsAs z (h ++ (event t o, a) ∷ []) (operations_so_far (step_logged l t o a) z) (is_scanning new z)) (sym d)
        (subst (λ z. ReadsAs t (h ++ (event t o, a) ∷ []) (unwrap_or z []) (is_scanning new t)) (sym (find_put_same l.unfinished t (with_step (operations_so_far l t) o a)))
        (subst (λ z. ReadsAs t (h ++ (event t o, a) ∷ []) (with_step (operations_so_far l t) o a) (is_some (unwrap_or z idle).scan)) (sym now)
        (g.adds.reads t h (operations_so_far l t) (k.reads t g.works g.unrolled))))
    reads_by u (inr d) e r =
        let now : active_of new u ≡ active_of s u = ap (find nat_cmp u) g.active ∙ find_put_other s.active t u g.standing d in
        subst (λ z. ReadsAs u (h ++ (event t o, a) ∷ []) (unwrap_or z []) (is_scanning new u)) (sym (find_put_other l.unfinished t u (with_step (operations_so_far l t) o a) d))
        (subst (λ z. ReadsAs u (h ++ (event t o, a) ∷ []) (operations_so_far l u) (is_some (unwrap_or z idle).scan)) (sym now)
        (reads_silent u h (event t o, a) (operations_so_far l u) (is_scanning s u) (silent_other u (event t o) a (turned t u ∙ untied u t d)) (k.reads u e (sym (ap (λ z. (unwrap_or z idle).rolling) now) ∙ r))))

    forward_by : (u : ℕ) → (u ≡ t) ⊎ (u ≡ t → ⊥) → IsForward (operations_so_far (step_logged l t o a) u)
    forward_by u (inl d) =
        subst (λ z. IsForward (operations_so_far (step_logged l t o a) z)) (sym d)
        (subst (λ z. IsForward (unwrap_or z [])) (sym (find_put_same l.unfinished t (with_step (operations_so_far l t) o a))) (forward_step (operations_so_far l t) o a g.adds.forward (k.forward t)))
    forward_by u (inr d) = subst (λ z. IsForward (unwrap_or z [])) (sym (find_put_other l.unfinished t u (with_step (operations_so_far l t) o a) d)) (k.forward u)

    rolled_by : (u : ℕ) → (u ≡ t) ⊎ (u ≡ t → ⊥) → is_some (active_of new u) ≡ true → is_rolling new u ≡ true → without_backs (operations_of u (h ++ (event t o, a) ∷ [])) ≡ operations_so_far (step_logged l t o a) u
    rolled_by u (inl d) e r =
        let os = with_step (operations_so_far l t) o a in
        subst (λ z. without_backs (operations_of z (h ++ (event t o, a) ∷ [])) ≡ operations_so_far (step_logged l t o a) z) (sym d)
        (ap without_backs (reads_whole t (h ++ (event t o, a) ∷ []) os (is_some g.standing.scan) (g.adds.reads t h (operations_so_far l t) (k.reads t g.works g.unrolled)))
        ∙ forward_kept os (forward_step (operations_so_far l t) o a g.adds.forward (k.forward t))
        ∙ sym (ap (λ z. unwrap_or z []) (find_put_same l.unfinished t os)))
    rolled_by u (inr d) e r =
        let now : active_of new u ≡ active_of s u = ap (find nat_cmp u) g.active ∙ find_put_other s.active t u g.standing d in
        ap without_backs (operations_kept u (event t o, a) h (silent_other u (event t o) a (turned t u ∙ untied u t d)))
        ∙ k.rolled u (sym (ap is_some now) ∙ e) (sym (ap (λ z. (unwrap_or z idle).rolling) now) ∙ r)
        ∙ sym (ap (λ z. unwrap_or z []) (find_put_other l.unfinished t u (with_step (operations_so_far l t) o a) d))

module _ (h : List Entry) (s : State) (l : Log) (t : ℕ) (o : Op) (a : Reply) (new : State) (g : IsEnd s t o a new) (k : IsLog h s l) where
  x : Entry
  x = (event t o, a)

  ends_is : (u : ℕ) → has_ended new u ≡ ((t == u) || has_ended s u)
  ends_is u = ap (list_any (λ v. v == u)) g.ended ∙ any_add_once (λ v. v == u) t s.ended

  other_past : (u : ℕ) → (u ≡ t → ⊥) → IsSilent u (event t o, a)
  other_past u d = silent_other u (event t o) a (turned t u ∙ untied u t d)

  apart_from : (u : ℕ) → has_ended s u ≡ true → u ≡ t → ⊥
  apart_from u e d = false_true (has_ended s t) g.works (ap (has_ended s) (sym d) ∙ e)

  differ : (u : ℕ) → (t == u) ≡ false → u ≡ t → ⊥
  differ u e d = false_true (t == u) e (ap (λ z. t == z) d ∙ tied t)

  stay : (u : ℕ) → has_ended s u ≡ true → has_ended new u ≡ true
  stay u e = ends_is u ∙ or_true (t == u) (has_ended s u) e

  works_after : (u : ℕ) → is_some (active_of new u) ≡ true → has_ended new u ≡ false
  works_after u e = ends_is u ∙ by (t == u) refl (not (u == t)) refl (sym (ap is_some (ap (find nat_cmp u) g.active ∙ find_filter s.active t u)) ∙ e)
    where
      by : (b : Bool) → (t == u) ≡ b → (c : Bool) → not (u == t) ≡ c → is_some (cond c (active_of s u) None) ≡ true → (b || has_ended s u) ≡ false
      by true d true f e = absurd (false_true (not (u == t)) (ap not (turned u t ∙ d)) f)
      by true d false f e = absurd (cc)
      by false d true f e = k.works u e
      by false d false f e = absurd (cc)

  reads_after : (programs : List Program) (u : ℕ) → has_ended new u ≡ false → is_rolling new u ≡ false → ReadsAs u (h ++ (event t o, a) ∷ []) (operations_so_far (end_logged l t programs) u) (is_scanning new u)
  reads_after programs u e r =
      let both = or_none (t == u) (has_ended s u) (sym (ends_is u) ∙ e) in
      let d = differ u both.0 in
      let now : active_of new u ≡ active_of s u = ap (find nat_cmp u) g.active ∙ find_filter_other s.active t u d in
      subst (λ z. ReadsAs u (h ++ (event t o, a) ∷ []) (unwrap_or z []) (is_scanning new u)) (sym (find_filter_other l.unfinished t u d))
      (subst (λ z. ReadsAs u (h ++ (event t o, a) ∷ []) (operations_so_far l u) (is_some (unwrap_or z idle).scan)) (sym now)
      (reads_silent u h (event t o, a) (operations_so_far l u) (is_scanning s u) (other_past u d) (k.reads u both.1 (sym (ap (λ z. (unwrap_or z idle).rolling) now) ∙ r))))

  forward_after : (programs : List Program) (u : ℕ) → IsForward (operations_so_far (end_logged l t programs) u)
  forward_after programs u = subst (λ z. IsForward (unwrap_or z [])) (sym (find_filter l.unfinished t u)) (by (not (u == t)))
    where
      by : (b : Bool) → IsForward (unwrap_or (cond b (find nat_cmp u l.unfinished) None) [])
      by true = k.forward u
      by false = tt

  rolled_after : (programs : List Program) (u : ℕ) → is_some (active_of new u) ≡ true → is_rolling new u ≡ true → without_backs (operations_of u (h ++ (event t o, a) ∷ [])) ≡ operations_so_far (end_logged l t programs) u
  rolled_after programs u e r =
      let d = differ u (or_none (t == u) (has_ended s u) (sym (ends_is u) ∙ works_after u e)).0 in
      let now : active_of new u ≡ active_of s u = ap (find nat_cmp u) g.active ∙ find_filter_other s.active t u d in
      ap without_backs (operations_kept u (event t o, a) h (other_past u d))
      ∙ k.rolled u (sym (ap is_some now) ∙ e) (sym (ap (λ z. (unwrap_or z idle).rolling) now) ∙ r)
      ∙ sym (ap (λ z. unwrap_or z []) (find_filter_other l.unfinished t u d))

  -- the log after an end, where the programs listed are right
  log_ended : (ps : List Program) → logged l (event t o, a) ≡ end_logged l t ps → HaveEnded new (committed (h ++ (event t o, a) ∷ [])) → ps ≡ programs (h ++ (event t o, a) ∷ []) → IsLog (h ++ (event t o, a) ∷ []) new (logged l (event t o, a))
  log_ended ps is listed right = subst (λ z. IsLog (h ++ (event t o, a) ∷ []) new z) (sym is) record {
    in_order = ap (is_sorted nat_cmp) g.active ∙ sorted_where (λ x. not (x == t)) s.active k.in_order;
    log_in_order = sorted_where (λ x. not (x == t)) l.unfinished k.log_in_order;
    same = λ u. same_without l.unfinished s.active t u (k.same u) ∙ sym (ap (λ z. is_some (find nat_cmp u z)) g.active);
    works = works_after;
    reads = reads_after ps;
    forward = forward_after ps;
    rolled = rolled_after ps;
    ended = listed;
    committed = right;
  }

  programs_past : map (program_in (h ++ (event t o, a) ∷ [])) (committed h) ≡ programs h
  programs_past = programs_stay s h (event t o, a) (committed h) k.ended (λ u e. other_past u (apart_from u e))

  -- A step that ends its transaction.
  pub log_end : IsLog (h ++ (event t o, a) ∷ []) new (logged l (event t o, a))
  log_end = by g.kept
    where
      by : ((o ≡ op.Commit) × (a ≡ reply.Committed) × (is_rolling s t ≡ false)) ⊎ (a ≡ reply.Aborted) → IsLog (h ++ (event t o, a) ∷ []) new (logged l (event t o, a))
      by (inr e) =
          let listed : committed (h ++ (event t o, a) ∷ []) ≡ committed h = committed_with h (event t o, a) false (ap is_committed e) ∙ append-nil (committed h) in
          log_ended l.committed (ap (λ z. logged l (event t o, z)) e)
          (subst (λ z. HaveEnded new z) (sym listed) (ended_stay s new (committed h) stay k.ended))
          (k.committed ∙ sym programs_past ∙ sym (ap (map (program_in (h ++ (event t o, a) ∷ []))) listed))
      by (inl e) =
          let listed : committed (h ++ (event t o, a) ∷ []) ≡ committed h ++ t ∷ [] = committed_with h (event t o, a) true (ap is_committed e.1) in
          let itself : has_ended new t ≡ true = ends_is t ∙ or_left (t == t) (has_ended s t) (tied t) in
          let silent : IsSilent t (event t o, a) = silent_by t (event t o) a (ap (λ z. is_operation z && is_granted a) e.0) (ap is_rows e.1) in
          let whole : operations_of t (h ++ (event t o, a) ∷ []) ≡ operations_so_far l t = operations_kept t (event t o, a) h silent ∙ reads_whole t h (operations_so_far l t) (is_scanning s t) (k.reads t g.works e.2) in
          log_ended (l.committed ++ record { txn = t; operations = operations_so_far l t } ∷ []) (ap (λ z. logged l (event t o, z)) e.1)
          (subst (λ z. HaveEnded new z) (sym listed) (ended_more new t (committed h) itself (ended_stay s new (committed h) stay k.ended)))
          (ap₂ (λ (ps : List Program) (os : List Answered). let q : Program = record { txn = t; operations = os } in ps ++ q ∷ []) (k.committed ∙ sym programs_past) (sym whole)
          ∙ sym (map_append (program_in (h ++ (event t o, a) ∷ [])) (committed h) (t ∷ []))
          ∙ sym (ap (map (program_in (h ++ (event t o, a) ∷ []))) listed))

-- A change of t is undone.
pub log_back : (h : List Entry) (s : State) (l : Log) (t : ℕ) (o : Op) (a : Reply) (new : State) → IsBack s t o a new → IsLog h s l → IsLog (h ++ (event t o, a) ∷ []) new (logged l (event t o, a))
log_back h s l t o a new g k =
    let x : Entry = (event t o, a) in
    let other : (u : ℕ) → (u ≡ t → ⊥) → IsSilent u x = λ u d. silent_other u (event t o) a (turned t u ∙ untied u t d) in
    let apart : (u : ℕ) → has_ended s u ≡ true → u ≡ t → ⊥ = λ u e d. false_true (has_ended s t) g.works (ap (has_ended s) (sym d) ∙ e) in
    let listed : committed (h ++ x ∷ []) ≡ committed h = committed_with h x false (ap is_committed g.undone) ∙ append-nil (committed h) in
    let ends : (u : ℕ) → has_ended new u ≡ has_ended s u = λ u. ap (list_any (λ v. v == u)) g.ended in
    let here : active_of new t ≡ Some g.standing = ap (find nat_cmp t) g.active ∙ find_put_same s.active t g.standing in
    let there : (u : ℕ) → (u ≡ t → ⊥) → active_of new u ≡ active_of s u = λ u d. ap (find nat_cmp u) g.active ∙ find_put_other s.active t u g.standing d in
    let active : (u : ℕ) → is_some (active_of new u) ≡ is_some (active_of s u) = λ u. ⊎_elim
    (λ d. ap (λ z. is_some (active_of new z)) d ∙ ap is_some here ∙ sym (ap (λ z. is_some (active_of s z)) d ∙ g.present)) (λ d. ap is_some (there u d)) (cases_eq u t) in
    subst (λ z. IsLog (h ++ x ∷ []) new z) (sym (ap (λ z. logged l (event t o, z)) g.undone)) record {
      in_order = ap (is_sorted nat_cmp) g.active ∙ sorted_put t g.standing s.active k.in_order;
      log_in_order = k.log_in_order;
      same = λ u. k.same u ∙ sym (active u);
      works = λ u e. ends u ∙ k.works u (sym (active u) ∙ e);
      reads = λ u e r. ⊎_elim
          (λ d. absurd (false_true (is_rolling new t) (ap (is_rolling new) (sym d) ∙ r) (ap (λ z. (unwrap_or z idle).rolling) here ∙ g.rolls)))
          (λ d. subst (λ z. ReadsAs u (h ++ x ∷ []) (operations_so_far l u) (is_some (unwrap_or z idle).scan)) (sym (there u d))
          (reads_silent u h x (operations_so_far l u) (is_scanning s u) (other u d) (k.reads u (sym (ends u) ∙ e) (sym (ap (λ z. (unwrap_or z idle).rolling) (there u d)) ∙ r))))
          (cases_eq u t);
      forward = k.forward;
      rolled = λ u e r. ⊎_elim
          (λ d. subst (λ z. without_backs (operations_of z (h ++ x ∷ [])) ≡ operations_so_far l z) (sym d) (itself ∙ told h s l t k g.present))
          (λ d. ap without_backs (operations_kept u x h (other u d)) ∙ k.rolled u (sym (active u) ∙ e) (sym (ap (λ z. (unwrap_or z idle).rolling) (there u d)) ∙ r))
          (cases_eq u t);
      ended = subst (λ z. HaveEnded new z) (sym listed) (ended_stay s new (committed h) (λ u e. ends u ∙ e) k.ended);
      committed = k.committed ∙ sym (programs_stay s h x (committed h) k.ended (λ u e. other u (apart u e))) ∙ sym (ap (map (program_in (h ++ x ∷ []))) listed);
    }
  where
    taken_back : (left : ℕ) → without_backs (operations_of t ((event t op.Back, reply.Undone left) ∷ [])) ≡ []
    taken_back left = ap (λ b. without_backs (cond {A = List Answered} (b && true) ((op.Back, reply.Undone left) ∷ []) [])) (tied t)

    rowless : (left : ℕ) → IsRowless t (event t op.Back, reply.Undone left)
    rowless left = λ f r. ap (λ b. cond (b && false) (reply.Undone left) (first_rows t r f)) (tied t)

    itself : without_backs (operations_of t (h ++ (event t o, a) ∷ [])) ≡ without_backs (operations_of t h)
    itself = ap₂ (λ o a. without_backs (operations_of t (h ++ (event t o, a) ∷ []))) g.back g.undone ∙ back_past t (event t op.Back, reply.Undone g.left) h (rowless g.left) (taken_back g.left)
