-- Bisection of rising numbers: what it finds, and where one more number goes.
use Rattle.std.specs.List.{insert}
use Rattle.std.specs.List.Sorted.{IsStrictlyIncreasing, IsBinarySearchResult}
use Rattle.std.specs.Ordering.{nat_cmp}
use Rattle.std.proofs.Common.{◌≡◌, ℕ, zero, suc, ◌+◌, ◌<◌, ◌≤◌, length, get_or, Result, Ok, Err, List, ◌⊎◌, ⊎_elim, sym, ◌∙◌, ap, refl, subst, arith, MatchResult}
use Rattle.std.proofs.Math.Numerals.{add-one}
use Rattle.std.proofs.lemmas.List.Sorted.{searched}
use Rattle.std.proofs.lemmas.List.Edits.{insert_end}
use Rattle.kr_model.specs.Locks.{add_once}
use Rattle.kr_model.proofs.Numbers.{add_once_insert, add_once_there, add_once_end}

here_or_later : (i j : ℕ) → i ≤ suc j → (i ≡ suc j) ⊎ (i ≤ j)
here_or_later i j le = grind arith

-- A later number is no less.
pub rise_between : (xs : List ℕ) → IsStrictlyIncreasing xs → (i j : ℕ) → i ≤ j → j < length xs → get_or xs i 0 ≤ get_or xs j 0
rise_between xs up i zero le lt = let e : i ≡ 0 = omega arith in subst (λ x. get_or xs x 0 ≤ get_or xs 0 0) (sym e) (omega arith)
rise_between xs up i (suc j) le lt =
    ⊎_elim (λ e. subst (λ x. get_or xs x 0 ≤ get_or xs (suc j) 0) (sym e) (omega arith))
    (λ b.
    let before : get_or xs i 0 ≤ get_or xs j 0 = rise_between xs up i j b (omega arith) in
    let next : get_or xs j 0 < get_or xs (suc j) 0 = subst (λ k. get_or xs j 0 < get_or xs k 0) (add-one j) (up j (omega arith)) in
    omega (arith, before, next)) (here_or_later i j le)

-- What bisection tells: where the number is, or where it would be.
abbrev pub IsFoundAt : List ℕ → ℕ → Result ℕ ℕ → Type 0
IsFoundAt xs t r = MatchResult r (λ i. (i < length xs) × (get_or xs i 0 ≡ t)) (λ i. (i ≤ length xs) × ((k : ℕ) → k < i → get_or xs k 0 < t) × ((k : ℕ) → i ≤ k → k < length xs → t < get_or xs k 0))

-- Bisection of rising numbers tells that.
pub found_at : (xs : List ℕ) (t : ℕ) (r : Result ℕ ℕ) → IsStrictlyIncreasing xs → IsBinarySearchResult (λ y. nat_cmp y t) xs r → IsFoundAt xs t r
found_at xs t r up is = searched xs t r is (rise_between xs up)

end_or_not : (i n : ℕ) → i ≤ n → (i ≡ n) ⊎ (i < n)
end_or_not i n le = grind arith

-- A number that is not there goes to the place that bisection tells.
pub add_once-missing : (xs : List ℕ) (t i : ℕ) → IsFoundAt xs t (Err i) → add_once t xs ≡ insert xs i t
add_once-missing xs t i at =
    ⊎_elim
    (λ e. add_once_end t xs (λ k lt. at.1 k (omega (arith, lt, e))) ∙ sym (insert_end xs t) ∙ ap (λ n. insert xs n t) (sym e))
    (λ lt. add_once_insert t xs i lt at.1 (at.2 i (omega arith) lt)) (end_or_not i (length xs) at.0)

-- A number that is there stays there.
pub add_once-present : (xs : List ℕ) (t i : ℕ) → IsStrictlyIncreasing xs → IsFoundAt xs t (Ok i) → add_once t xs ≡ xs
add_once-present xs t i up at = add_once_there t xs i at.0 (λ k lt. below xs up i k lt at.0 (get_or xs i 0) refl t at.1) (sym at.1)
  where
    below : (xs : List ℕ) → IsStrictlyIncreasing xs → (i k : ℕ) → k < i → i < length xs → (x : ℕ) → get_or xs i 0 ≡ x → (t : ℕ) → x ≡ t → get_or xs k 0 < t
    below xs up i k lt in_range x e t f =
        let step : get_or xs k 0 < get_or xs (k + 1) 0 = up k (omega arith) in
        let rest : get_or xs (k + 1) 0 ≤ get_or xs i 0 = rise_between xs up (k + 1) i (omega arith) in_range in
        omega (arith, step, rest, e, f)
