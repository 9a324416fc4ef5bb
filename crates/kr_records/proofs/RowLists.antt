-- Beginnings of lists, and elements replaced.
use Rattle.std.proofs.Common.{◌≡◌, ℕ, zero, suc, ◌<◌, ◌≤◌, List, [], ◌∷◌, length, map, take, refl, ap, arith}
use Rattle.std.specs.Prelude.{slice_index_or, slice_set}
use mathlib.Core.List.{IsPrefix}

pub length-map : {A B : Type 0} (f : A → B) (xs : List A) → length (map f xs) ≡ length xs
length-map f [] = refl
length-map f (x ∷ xs) = ap suc (length-map f xs)

pub map-set : {A B : Type 0} (f : A → B) (xs : List A) (k : ℕ) (y : A) → map f (slice_set xs k y) ≡ slice_set (map f xs) k (f y)
map-set f [] k y = refl
map-set f (x ∷ xs) zero y = refl
map-set f (x ∷ xs) (suc k) y = ap (λ l. f x ∷ l) (map-set f xs k y)

pub map-at : {A B : Type 0} (f : A → B) (xs : List A) (k : ℕ) (d : A) (e : B) → k < length (map f xs) → f (slice_index_or xs k d) ≡ slice_index_or (map f xs) k e
map-at f [] k d e lt = absurd (omega arith)
map-at f (x ∷ xs) zero d e lt = refl
map-at f (x ∷ xs) (suc k) d e lt = map-at f xs k d e (omega arith)

-- an element replaced by itself
pub set_own : {A : Type 0} (xs : List A) (k : ℕ) (x d : A) → k < length xs → x ≡ slice_index_or xs k d → slice_set xs k x ≡ xs
set_own [] k x d lt e = refl
set_own (y ∷ ys) zero x d lt e = ap (λ z. z ∷ ys) e
set_own (y ∷ ys) (suc k) x d lt e = ap (λ l. y ∷ l) (set_own ys k x d (omega arith) e)

pub take_length : {A : Type 0} (n : ℕ) (xs : List A) → n ≤ length xs → length (take n xs) ≡ n
take_length zero xs le = refl
take_length (suc n) [] le = absurd (omega arith)
take_length (suc n) (x ∷ xs) le = ap suc (take_length n xs (omega arith))

-- the first n begin the first m
pub prefix_take : {A : Type 0} (n m : ℕ) (xs : List A) → n ≤ m → IsPrefix (take n xs) (take m xs)
prefix_take zero m xs le = (take m xs, refl)
prefix_take (suc n) zero xs le = absurd (omega arith)
prefix_take (suc n) (suc m) [] le = ([], refl)
prefix_take (suc n) (suc m) (x ∷ xs) le = let r = prefix_take n m xs (omega arith) in (r.0, ap (λ l. x ∷ l) r.1)
