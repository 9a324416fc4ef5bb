-- What keeping a mode does to the modes of each transaction and name.
use Rattle.std.proofs.Common.{◌≡◌, ℕ, zero, suc, ◌<◌, ◌≤◌, All, length, get_or, Bool, true, false, cond, Option, Some, None, sym, ◌∙◌, ap, refl, arith, subst, IsTrue, unwrap_or}
use mathlib.Core.Bool.{false≢true, not}
use Rattle.std.specs.Prelude.{◌==◌, T}
use Rattle.std.specs.declared.cmp.Ordering.{Ordering}
use Rattle.std.specs.declared.cmp.Ordering.TheVariants.{Less, Equal, Greater}
use Rattle.std.specs.Ordering.{eq_by_cmp, is_eq}
use Rattle.std.specs.Cmp.{eq_by_cmp_equiv, tied_itself}
use Rattle.std.proofs.lemmas.List.{get_or_default}
use Rattle.std.specs.FinMap.{find, put, is_sorted}
use Rattle.std.specs.FinMap.Entries.{find-put, find-where_key, is_sorted-put, is_sorted-where_key, same_entries}
use Rattle.kr_model.specs.declared.Name.{Name}
use Rattle.kr_model.specs.Protocol.{Protocol, IsLawful, IsMode}
use Rattle.kr_model.specs.Locks.{Locks, Holder, IsLocks, holder_cmp, own, keep_or_drop, release, AreWithin, HasNoNone}
use Rattle.kr_model.proofs.SortedSearch.{find_place}
use Rattle.kr_model.proofs.LockLaws.{holder_total, holder_exact, find-release}

t_of : (b : Bool) → IsTrue b → T b
t_of b h = subst (λ (c : Bool). T c) (sym h) tt

of_t : (b : Bool) → T b → IsTrue b
of_t true h = refl
of_t false h = absurd h

-- whether two holders are one
abbrev pub same : Holder → Holder → Bool
same a b = eq_by_cmp holder_cmp a b

-- whether a mode is 0
abbrev pub is_zero : ℕ → Bool
is_zero zero = true
is_zero (suc n) = false

equal_of : (o : Ordering) → is_eq o ≡ true → o ≡ Equal
equal_of Less e = absurd (false≢true e)
equal_of Equal e = refl
equal_of Greater e = absurd (false≢true e)

-- the test tells holders apart
pub same_holder : (p q : Holder) → same p q ≡ true → p ≡ q
same_holder p q h = holder_exact p q (equal_of (holder_cmp p q) h)

-- a holder is the same as itself
pub same_itself : (q : Holder) → same q q ≡ true
same_itself q = (eq_by_cmp_equiv holder_total).refl q

same_sym : (p q : Holder) → same p q ≡ same q p
same_sym p q = (eq_by_cmp_equiv holder_total).symm p q

not_cond : {A : Type 0} (b : Bool) (x : Option A) → cond (not b) x None ≡ cond b None x
not_cond true x = refl
not_cond false x = refl

dropped_alike : (n : Name) (t : ℕ) (q x : Holder) → holder_cmp q x ≡ Equal → not (same (n, t) x) ≡ not (same (n, t) q)
dropped_alike n t q x e = ap (λ (z : Holder). not (same (n, t) z)) (sym (holder_exact q x e))

-- what stands at each holder after a mode is kept or dropped
pub find-keep : (h : Locks) (t : ℕ) (n : Name) (m : ℕ) (q : Holder) → find holder_cmp q (keep_or_drop h t n m) ≡ cond (same q (n, t)) (cond (is_zero m) None (Some m)) (find holder_cmp q h)
find-keep h t n zero q =
    find-where_key holder_cmp (λ x. not (same (n, t) x)) q (λ x e. dropped_alike n t q x e) h
    ∙ not_cond (same (n, t) q) (find holder_cmp q h) ∙ ap (λ b. cond b None (find holder_cmp q h)) (same_sym (n, t) q)
find-keep h t n (suc m) q = find-put holder_cmp holder_total q (n, t) (suc m) h

sorted_keep : (h : Locks) (t : ℕ) (n : Name) (m : ℕ) → T (is_sorted holder_cmp h) → T (is_sorted holder_cmp (keep_or_drop h t n m))
sorted_keep h t n zero s = is_sorted-where_key holder_cmp (λ x. not (same (n, t) x)) h s
sorted_keep h t n (suc m) s = is_sorted-put holder_cmp holder_total (n, t) (suc m) h s

-- holders still rise after a mode is kept or dropped
pub IsLocks-keep : (h : Locks) (t : ℕ) (n : Name) (m : ℕ) → IsLocks h → IsLocks (keep_or_drop h t n m)
IsLocks-keep h t n m s = of_t _ (sorted_keep h t n m (t_of _ s))

-- holders still rise after a release
pub IsLocks-release : (h : Locks) (t : ℕ) → IsLocks h → IsLocks (release h t)
IsLocks-release h t s = of_t _ (is_sorted-where_key holder_cmp (λ (x : Holder). not (x.1 == t)) h (t_of _ s))

own_entry : (g : Option ℕ) → (g ≡ Some 0 → ⊥) → cond (is_zero (unwrap_or g 0)) None (Some (unwrap_or g 0)) ≡ g
own_entry None h = refl
own_entry (Some zero) h = absurd (h refl)
own_entry (Some (suc m)) h = refl

keep_back_at : (h : Locks) (t : ℕ) (n : Name) (m : ℕ) (q : Holder) → HasNoNone h → find holder_cmp q (keep_or_drop (keep_or_drop h t n m) t n (own h t n)) ≡ find holder_cmp q h
keep_back_at h t n m q none =
    elim (same q (n, t)) as (λ b. same q (n, t) ≡ b → find holder_cmp q (keep_or_drop (keep_or_drop h t n m) t n (own h t n)) ≡ find holder_cmp q h) [
      | true ↦ λ e. find-keep (keep_or_drop h t n m) t n (own h t n) q ∙ ap (λ b. cond b (cond (is_zero (own h t n)) None (Some (own h t n))) (find holder_cmp q (keep_or_drop h t n m))) e
          ∙ own_entry (find holder_cmp (n, t) h) (none (n, t)) ∙ ap (λ (x : Holder). find holder_cmp x h) (sym (same_holder q (n, t) e))
      | false ↦ λ e. find-keep (keep_or_drop h t n m) t n (own h t n) q ∙ ap (λ b. cond b (cond (is_zero (own h t n)) None (Some (own h t n))) (find holder_cmp q (keep_or_drop h t n m))) e
          ∙ find-keep h t n m q ∙ ap (λ b. cond b (cond (is_zero m) None (Some m)) (find holder_cmp q h)) e
    ] refl

-- where the mode kept is put back to what it was, the locks are as they were
pub keep_back : (h : Locks) (t : ℕ) (n : Name) (m : ℕ) → IsLocks h → HasNoNone h → keep_or_drop (keep_or_drop h t n m) t n (own h t n) ≡ h
keep_back h t n m s none =
    same_entries holder_cmp holder_total holder_exact (keep_or_drop (keep_or_drop h t n m) t n (own h t n)) h
    (sorted_keep (keep_or_drop h t n m) t n (own h t n) (sorted_keep h t n m (t_of _ s))) (t_of _ s) (λ q. keep_back_at h t n m q none)

own_some : (m : ℕ) → unwrap_or (cond (is_zero m) None (Some m)) 0 ≡ m
own_some zero = refl
own_some (suc m) = refl

-- the modes after one is kept
pub own-kept : (h : Locks) (t u : ℕ) (n k : Name) (m : ℕ) → own (keep_or_drop h t n m) u k ≡ cond (same (k, u) (n, t)) m (own h u k)
own-kept h t u n k m =
    elim (same (k, u) (n, t)) as (λ b. same (k, u) (n, t) ≡ b → own (keep_or_drop h t n m) u k ≡ cond b m (own h u k)) [
      | true ↦ λ e. ap (λ g. unwrap_or g 0) (find-keep h t n m (k, u) ∙ ap (λ b. cond b (cond (is_zero m) None (Some m)) (find holder_cmp (k, u) h)) e) ∙ own_some m
      | false ↦ λ e. ap (λ g. unwrap_or g 0) (find-keep h t n m (k, u) ∙ ap (λ b. cond b (cond (is_zero m) None (Some m)) (find holder_cmp (k, u) h)) e)
    ] refl

own-kept_same : (h : Locks) (t : ℕ) (n : Name) (m : ℕ) → own (keep_or_drop h t n m) t n ≡ m
own-kept_same h t n m = own-kept h t t n n m ∙ ap (λ b. cond b m (own h t n)) (same_itself (n, t))

none_entry : (m : ℕ) → cond (is_zero m) None (Some m) ≡ Some 0 → ⊥
none_entry zero h = cc
none_entry (suc m) h = cc

-- 0 is never kept
pub HasNoNone-keep : (h : Locks) (t : ℕ) (n : Name) (m : ℕ) → HasNoNone h → HasNoNone (keep_or_drop h t n m)
HasNoNone-keep l t n m none q h =
    elim (same q (n, t)) as (λ b. same q (n, t) ≡ b → ⊥) [
      | true ↦ λ e. none_entry m (sym (find-keep l t n m q ∙ ap (λ b. cond b (cond (is_zero m) None (Some m)) (find holder_cmp q l)) e) ∙ h)
      | false ↦ λ e. none q (sym (find-keep l t n m q ∙ ap (λ b. cond b (cond (is_zero m) None (Some m)) (find holder_cmp q l)) e) ∙ h)
    ] refl

-- no mode is above the count after one within it is kept or dropped
pub AreWithin-keep : (count : ℕ) (h : Locks) (t : ℕ) (n : Name) (m : ℕ) → AreWithin count h → m ≤ count → AreWithin count (keep_or_drop h t n m)
AreWithin-keep count h t n m within le u k =
    elim (same (k, u) (n, t)) as (λ b. same (k, u) (n, t) ≡ b → own (keep_or_drop h t n m) u k ≤ count) [
      | true ↦ λ e. let here = own-kept h t u n k m ∙ ap (λ b. cond b m (own h u k)) e in rw here le
      | false ↦ λ e. let here = own-kept h t u n k m ∙ ap (λ b. cond b m (own h u k)) e in rw here (within u k)
    ] refl

-- a kept mode is a mode of the protocol
pub kept_mode : (p : Protocol) (was q : ℕ) → IsLawful p → was ≤ p.count → 0 < q → q ≤ p.count → IsMode p (p.convert was q)
kept_mode p zero q laws le some few = rw (laws.convert-none_held q few) (record { some = some; in_range = few })
kept_mode p (suc w) q laws le some few = laws.convert-modes (suc w) q (record { some = omega arith; in_range = le }) (record { some = some; in_range = few })

-- to keep a mode that is one is to put it
pub keep_some : (h : Locks) (t : ℕ) (n : Name) (m : ℕ) → 0 < m → keep_or_drop h t n m ≡ put holder_cmp (n, t) m h
keep_some h t n zero lt = absurd (omega arith)
keep_some h t n (suc m) lt = refl

-- what a commit request in mode q by one who held `was` leaves: the converted mode, and all that the locks keep; the mode before can be put back
pub record Held (p : Protocol) (old real : Locks) (t : ℕ) (n : Name) (q was : ℕ) : Type 0 where
  pub converted : real ≡ put holder_cmp (n, t) (p.convert (own old t n) q) old
  pub back : keep_or_drop real t n was ≡ old
  pub held : own real t n ≡ 0 → ⊥
  pub within : AreWithin p.count real
  pub no_none : HasNoNone real
  pub in_order : IsLocks real

-- what holds where a request is kept in the converted mode
pub held_facts : (p : Protocol) (old real : Locks) (t : ℕ) (n : Name) (q was m : ℕ) → IsLawful p → AreWithin p.count old → HasNoNone old → IsLocks old → 0 < q → q ≤ p.count → was ≡ own old t n → m ≡ p.convert was q → real ≡ keep_or_drop old t n m → Held p old real t n q was
held_facts p old real t n q was m laws within no_none in_order some few is_own is_kept is_real =
    let mode = kept_mode p (own old t n) q laws (within t n) some few in
    let is_mode : IsMode p m = rw (is_kept, is_own) mode in
    let positive : 0 < m = is_mode.some in
    record {
      converted = is_real ∙ keep_some old t n m positive ∙ ap (λ x. put holder_cmp (n, t) x old) (is_kept ∙ ap (λ x. p.convert x q) is_own);
      back = rw (is_real, is_own) (keep_back old t n m in_order no_none);
      held = λ h. let same_mode : m ≡ 0 = sym (rw is_real (own-kept_same old t n m)) ∙ h in omega arith;
      within = rw is_real (AreWithin-keep p.count old t n m within is_mode.in_range);
      no_none = rw is_real (HasNoNone-keep old t n m no_none);
      in_order = rw is_real (IsLocks-keep old t n m in_order);
    }

-- no lock has the mode 0 after a release
pub HasNoNone-release : (l : Locks) (t : ℕ) → HasNoNone l → HasNoNone (release l t)
HasNoNone-release l t none q h =
    elim (not (q.1 == t)) as (λ b. not (q.1 == t) ≡ b → ⊥) [
      | true ↦ λ e. none q (sym (find-release l t q ∙ ap (λ b. cond b (find holder_cmp q l) None) e) ∙ h)
      | false ↦ λ e. none_some (sym (find-release l t q ∙ ap (λ b. cond b (find holder_cmp q l) None) e) ∙ h)
    ] refl
  where
    none_some : ◌≡◌ {A = Option ℕ} None (Some 0) → ⊥
    none_some h = cc

-- no mode is above the count after a release
pub AreWithin-release : (count : ℕ) (h : Locks) (t : ℕ) → AreWithin count h → AreWithin count (release h t)
AreWithin-release count h t within u n =
    elim (not (u == t)) as (λ b. not (u == t) ≡ b → own (release h t) u n ≤ count) [
      | true ↦ λ e. let here = ap (λ g. unwrap_or g 0) (find-release h t (n, u) ∙ ap (λ b. cond b (find holder_cmp (n, u) h) None) e) in rw here (within u n)
      | false ↦ λ e. let here = ap (λ g. unwrap_or g 0) (find-release h t (n, u) ∙ ap (λ b. cond b (find holder_cmp (n, u) h) None) e) in rw here (omega arith)
    ] refl

same_entry : (h : Locks) (k : ℕ) (d e : Holder × ℕ) → k < length h → get_or h k e ≡ get_or h k d
same_entry h k d e lt = get_or_default h k e d lt

-- where no mode is above the count, each lock is so by itself
pub entries_within : (count : ℕ) (h : Locks) → IsLocks h → AreWithin count h → All (λ l. l.1 ≤ count) h
entries_within count h sorted within k d lt =
    let e : Holder × ℕ = get_or h k d in
    let found = find_place holder_cmp holder_total e.0 h k (t_of (is_sorted holder_cmp h) sorted) lt (λ x. ap (λ (y : Holder × ℕ). holder_cmp y.0 e.0) (same_entry h k d x lt) ∙ tied_itself holder_total e.0) d in
    subst (λ o. unwrap_or o 0 ≤ count) found (within e.0.1 e.0.0)
