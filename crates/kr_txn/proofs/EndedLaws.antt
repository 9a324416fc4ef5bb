-- Which numbers are among rising ones.
use Rattle.std.specs.Prelude.{◌==◌}
use Rattle.std.specs.List.{list_any}
use Rattle.std.proofs.Common.{◌≡◌, ◌≢◌, ℕ, zero, suc, ◌<◌, ◌≤◌, length, get_or, Bool, true, false, Result, Ok, Err, is_ok, List, [], ◌∷◌, ◌||◌, ◌⊎◌, ⊎_elim, ◌∙◌, ap, refl, arith}
use Rattle.std.proofs.lemmas.Bool.Decides.{nat_tests}
use Rattle.kr_model.proofs.Bisection.{IsFoundAt}

or_true : (b : Bool) → (b || true) ≡ true
or_true true = refl
or_true false = refl

-- A number at a place is among them.
pub any_at : (xs : List ℕ) (t i : ℕ) → i < length xs → get_or xs i 0 ≡ t → list_any (λ u. u == t) xs ≡ true
any_at [] t i lt e = absurd (omega arith)
any_at (x ∷ xs) t zero lt e = ap (λ b. b || list_any (λ u. u == t) xs) (let same : (x == t) ≡ true = grind (arith, nat_tests) in same)
any_at (x ∷ xs) t (suc i) lt e = ap (λ b. (x == t) || b) (any_at xs t i (omega arith) e) ∙ or_true (x == t)

pub none_at : (xs : List ℕ) (t : ℕ) → ((k : ℕ) → k < length xs → get_or xs k 0 ≢ t) → list_any (λ u. u == t) xs ≡ false
none_at [] t out = refl
none_at (x ∷ xs) t out =
    ap (λ b. b || list_any (λ u. u == t) xs) (let ne : x ≢ t = out 0 (omega arith) in let differ : (x == t) ≡ false = grind (arith, nat_tests) in differ)
    ∙ none_at xs t (λ k lt. out (suc k) (omega arith))

before_or_not : (k i : ℕ) → (k < i) ⊎ (i ≤ k)
before_or_not k i = grind arith

-- A number is among rising ones exactly where bisection finds it.
pub any-found : (xs : List ℕ) (t : ℕ) (r : Result ℕ ℕ) → IsFoundAt xs t r → list_any (λ u. u == t) xs ≡ is_ok r
any-found xs t (Ok i) at = any_at xs t i at.0 at.1
any-found xs t (Err i) at = none_at xs t (λ k lt e. ⊎_elim (λ b. let h = at.1 k b in absurd (omega arith)) (λ b. let h = at.2 k b lt in absurd (omega arith)) (before_or_not k i))
