-- Pairs whose keys rise one after another are an index.
use Rattle.std.proofs.Common.{◌≡◌, ℕ, ◌<◌, ◌≤◌, [], ◌∷◌, true, nat_lt, Option, Some, refl, arith}
use Rattle.std.specs.Ordering.{nat_cmp, is_lt}
use Rattle.std.specs.FinMap.{is_sorted}
use Rattle.std.specs.FinMap.Entries.{below_all}
use Rattle.std.proofs.lemmas.Bool.{and_parts}
use Rattle.std.proofs.lemmas.Bool.Decides.{nat_tests}
use Rattle.kr_model.specs.Map.{Map, is_above, is_rising}

less : (a b : ℕ) → a < b → is_lt (nat_cmp a b) ≡ true
less a b h =
    let e : nat_lt a b ≡ true = grind (arith, nat_tests) in
    rw e

-- keys that rise from above x are all above what is at most x
below_rising : (k x : ℕ) (ps : Map) → k ≤ x → is_rising (Some x) ps ≡ true → below_all nat_cmp k ps ≡ true
below_rising k x [] le h = refl
below_rising k x (p ∷ ps) le h =
    let parts = and_parts (nat_lt x p.0) (is_rising (Some p.0) ps) h in
    let lt : k < p.0 = grind (arith, nat_tests, parts.0) in
    let further : k ≤ p.0 = omega arith in
    rw (less k p.0 lt, below_rising k p.0 ps further parts.1)

-- keys that rise make an index
pub sorted_rising : (before : Option ℕ) (ps : Map) → is_rising before ps ≡ true → is_sorted nat_cmp ps ≡ true
sorted_rising before [] h = refl
sorted_rising before (p ∷ ps) h =
    let parts = and_parts (is_above p.0 before) (is_rising (Some p.0) ps) h in
    let same : p.0 ≤ p.0 = omega arith in
    rw (below_rising p.0 p.0 ps same parts.1, sorted_rising (Some p.0) ps parts.1)
