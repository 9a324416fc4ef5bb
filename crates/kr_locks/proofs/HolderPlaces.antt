-- Where a holder stands, and what an edit there does.
use Rattle.std.proofs.Common.{◌≡◌, ℕ, Result, Ok, Err, MatchResult, length, get_or, set, None, sym, ap, ◌∙◌, subst}
use Rattle.std.specs.Prelude.{T, unwrap_or}
use Rattle.std.specs.Ordering.{nat_cmp}
use Rattle.std.specs.Cmp.{nat_cmp_total}
use Rattle.std.specs.List.{insert, remove}
use Rattle.std.specs.List.Sorted.{IsSearchInRange, IsBinarySearchResult}
use Rattle.std.specs.FinMap.{find, put, is_sorted}
use Rattle.std.specs.FinMap.Entries.{is_sorted-put, is_sorted-where_key}
use Rattle.std.specs.Ordering.{eq_by_cmp}
use Rattle.std.proofs.Common.{Bool, true, false, refl, not, IsTrue}
use Rattle.std.proofs.lemmas.Map.Lookups.{exact_unsigned}
use Rattle.kr_model.proofs.SortedSearch.{comparisons_rise, find_place, put_place, find_none, put_gap, without_gap, without_place}
use Rattle.kr_locks.specs.Buckets.{Holders, IsHolders, IsHolderAt, IsHolderGap, without}

pub t_holders : (hs : Holders) → IsHolders hs → T (is_sorted nat_cmp hs)
t_holders hs s = subst (λ b. T b) (sym s) tt

-- where a binary search for a transaction ends
pub searched : (hs : Holders) (t : ℕ) (r : Result ℕ ℕ) → IsHolders hs → IsSearchInRange r (length hs) → IsBinarySearchResult (λ h. nat_cmp h.0 t) hs r → MatchResult r (IsHolderAt hs t) (IsHolderGap hs t)
searched hs t (Ok i) s in_range here = (in_range, here)
searched hs t (Err i) s in_range point = (in_range, point (comparisons_rise nat_cmp nat_cmp_total t hs (t_holders hs s)))

module _ (hs : Holders) (s : IsHolders hs) (t i : ℕ) where
  pub mode_at : IsHolderAt hs t i → (d : ℕ × ℕ) → (get_or hs i d).1 ≡ unwrap_or (find nat_cmp t hs) 0
  mode_at p d = sym (ap (λ o. unwrap_or o 0) (find_place nat_cmp nat_cmp_total t hs i (t_holders hs s) p.0 p.1 d))

  pub put_at : IsHolderAt hs t i → (m : ℕ) → set hs i (t, m) ≡ put nat_cmp t m hs
  put_at p m =
      let d : ℕ × ℕ = (t, m) in
      ap (λ (k : ℕ). set hs i (k, m)) (sym (exact_unsigned (get_or hs i d).0 t (p.1 d))) ∙ sym (put_place nat_cmp nat_cmp_total t m hs i (t_holders hs s) p.0 p.1 d)

  pub left_at : IsHolderAt hs t i → remove hs i ≡ without t hs
  left_at p = sym (without_place nat_cmp nat_cmp_total t hs i (t_holders hs s) p.0 p.1)

  pub none_at : IsHolderGap hs t i → find nat_cmp t hs ≡ None
  none_at g = find_none nat_cmp nat_cmp_total t hs i (t_holders hs s) g.0 g.1

  pub no_mode : IsHolderGap hs t i → 0 ≡ unwrap_or (find nat_cmp t hs) 0
  no_mode g = sym (ap (λ o. unwrap_or o 0) (none_at g))

  pub put_into : IsHolderGap hs t i → (m : ℕ) → insert hs i (t, m) ≡ put nat_cmp t m hs
  put_into g m = sym (put_gap nat_cmp nat_cmp_total t m hs i g.0 g.1)

  pub left_gap : IsHolderGap hs t i → hs ≡ without t hs
  left_gap g = sym (without_gap nat_cmp nat_cmp_total t hs i g.1)

of_t : (b : Bool) → T b → IsTrue b
of_t true h = refl
of_t false h = absurd h

-- holders still rise after a mode is written
pub IsHolders-put : (t m : ℕ) (hs : Holders) → IsHolders hs → IsHolders (put nat_cmp t m hs)
IsHolders-put t m hs s = of_t _ (is_sorted-put nat_cmp nat_cmp_total t m hs (t_holders hs s))

-- and after one leaves
pub IsHolders-without : (t : ℕ) (hs : Holders) → IsHolders hs → IsHolders (without t hs)
IsHolders-without t hs s = of_t _ (is_sorted-where_key nat_cmp (λ x. not (eq_by_cmp nat_cmp t x)) hs (t_holders hs s))
