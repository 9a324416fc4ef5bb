-- Keys rise one after another exactly where they are those of an index.
use Rattle.std.proofs.Common.{◌≡◌, ℕ, ◌↔◌, ◌==◌, [], ◌∷◌, Bool, true, false, IsTrue, nat_lt, Some, None, refl, arith}
use Rattle.std.specs.Ordering.{nat_cmp, is_lt}
use Rattle.std.specs.FinMap.{is_sorted}
use Rattle.std.specs.FinMap.Entries.{below_all}
use Rattle.std.proofs.lemmas.Bool.{and_parts}
use Rattle.std.proofs.lemmas.Bool.Decides.{nat_tests}
use Rattle.kr_model.specs.Map.{Map, IsMap, is_rising}
use Rattle.kr_model.proofs.RisingKeys.{sorted_rising}

less_back : (a b : ℕ) → is_lt (nat_cmp a b) ≡ true → nat_lt a b ≡ true
less_back a b h = by (nat_lt a b) (a == b) refl
  where
    by : (x y : Bool) → nat_lt a b ≡ x → nat_lt a b ≡ true
    by true y e = e
    by false y e = grind (arith, nat_tests)

-- the keys of an index rise
rising_sorted : (k : ℕ) (ps : Map) → below_all nat_cmp k ps ≡ true → is_sorted nat_cmp ps ≡ true → is_rising (Some k) ps ≡ true
rising_sorted k [] below sorted = refl
rising_sorted k (q ∷ qs) below sorted =
    let belows = and_parts (is_lt (nat_cmp k q.0)) (below_all nat_cmp k qs) below in
    let sorts = and_parts (below_all nat_cmp q.0 qs) (is_sorted nat_cmp qs) sorted in
    rw (less_back k q.0 belows.0, rising_sorted q.0 qs sorts.0 sorts.1)

-- keys rise exactly where they are those of an index
pub rising_is_map : (ps : Map) → IsTrue (is_rising None ps) ↔ IsMap ps
rising_is_map [] = (λ h. refl, λ h. refl)
rising_is_map (p ∷ ps) = (
  λ h. sorted_rising None (p ∷ ps) h,
  λ h. let sorts = and_parts (below_all nat_cmp p.0 ps) (is_sorted nat_cmp ps) h in rising_sorted p.0 ps sorts.0 sorts.1,
)
