-- What stands at the place of a lock, and what an edit there does.
use Rattle.std.proofs.Common.{◌≡◌, ℕ, Result, Ok, Err, MatchResult, length, get_or, set, None, sym, ap, ◌∙◌, subst}
use Rattle.std.specs.Prelude.{T, unwrap_or}
use Rattle.std.specs.List.{insert, remove}
use Rattle.std.specs.List.Sorted.{IsSearchInRange, IsBinarySearchResult}
use Rattle.std.specs.FinMap.{find, put, is_sorted}
use Rattle.kr_model.specs.declared.Name.{Name}
use Rattle.kr_model.specs.Locks.{Locks, Holder, IsLocks, holder_cmp, own, forget}
use Rattle.kr_model.proofs.LockLaws.{holder_total, holder_exact}
use Rattle.kr_model.proofs.SortedSearch.{comparisons_rise, find_place, put_place, find_none, put_gap, without_gap, without_place}
use Rattle.kr_locks.specs.List.{IsPlaceOf, IsGapFor}

t_locks : (h : Locks) → IsLocks h → T (is_sorted holder_cmp h)
t_locks h s = subst (λ b. T b) (sym s) tt

-- where a binary search for a holder ends
pub searched : (h : Locks) (k : Holder) (r : Result ℕ ℕ) → IsLocks h → IsSearchInRange r (length h) → IsBinarySearchResult (λ l. holder_cmp l.0 k) h r → MatchResult r (IsPlaceOf h k) (IsGapFor h k)
searched h k (Ok i) s in_range here = (in_range, here)
searched h k (Err i) s in_range point = (in_range, point (comparisons_rise holder_cmp holder_total k h (t_locks h s)))

module _ (h : Locks) (s : IsLocks h) (t : ℕ) (n : Name) (i : ℕ) where
  -- the mode at the place is the transaction's own
  pub own_place : IsPlaceOf h (n, t) i → (d : Holder × ℕ) → (get_or h i d).1 ≡ own h t n
  own_place p d = sym (ap (λ o. unwrap_or o 0) (find_place holder_cmp holder_total (n, t) h i (t_locks h s) p.0 p.1 d))

  -- writing over the lock at the place keeps the mode
  pub put_at : IsPlaceOf h (n, t) i → (m : ℕ) → set h i ((n, t), m) ≡ put holder_cmp (n, t) m h
  put_at p m =
      let d : Holder × ℕ = ((n, t), m) in
      ap (λ (k : Holder). set h i (k, m)) (sym (holder_exact (get_or h i d).0 (n, t) (p.1 d))) ∙ sym (put_place holder_cmp holder_total (n, t) m h i (t_locks h s) p.0 p.1 d)

  -- taking out the lock at the place takes the mode away
  pub forget_at : IsPlaceOf h (n, t) i → remove h i ≡ forget h t n
  forget_at p = sym (without_place holder_cmp holder_total (n, t) h i (t_locks h s) p.0 p.1)

  -- where there is only a gap, nothing is found
  pub find_gap_none : IsGapFor h (n, t) i → find holder_cmp (n, t) h ≡ None
  find_gap_none g = find_none holder_cmp holder_total (n, t) h i (t_locks h s) g.0 g.1

  -- so the own mode is 0
  pub own_gap : IsGapFor h (n, t) i → 0 ≡ own h t n
  own_gap g = sym (ap (λ o. unwrap_or o 0) (find_gap_none g))

  -- a lock that goes into the gap keeps the mode
  pub put_into : IsGapFor h (n, t) i → (m : ℕ) → insert h i ((n, t), m) ≡ put holder_cmp (n, t) m h
  put_into g m = sym (put_gap holder_cmp holder_total (n, t) m h i g.0 g.1)

  -- and there is none to take away
  pub forget_gap : IsGapFor h (n, t) i → h ≡ forget h t n
  forget_gap g = sym (without_gap holder_cmp holder_total (n, t) h i g.1)
