-- Lists of results that all succeeded.
use Rattle.std.proofs.Common.{◌≡◌, List, [], ◌∷◌, map, Result, Ok, Err, IfOk, MatchResult, Contains, Vec, Global}
use Rattle.std.specs.List.{AllZip}
use Rattle.std.proofs.lemmas.Slice.Zip.{AllZip-map}

all_ok : {A B : Type 0} (E : Type 0) (f : A → B) (xs : List A) (ys : List B)
    → AllZip (λ x (r : Result B E). IfOk r (λ y. y ≡ f x)) xs (map Ok ys) → AllZip (λ x y. y ≡ f x) xs ys
all_ok E f [] [] h = tt
all_ok E f [] (y ∷ ys) h = h
all_ok E f (x ∷ xs) [] h = h
all_ok E f (x ∷ xs) (y ∷ ys) h = (h.0, all_ok E f xs ys h.1)

-- What a list of results is collected into, where each that succeeded is f of its item: f of each item.
pub collected : {A B E : Type 0} (f : A → B) (xs : List A) (rs : List (Result B E)) (r : Result (Vec B Global) E)
    → MatchResult r (λ v. (ys : List B) × (rs ≡ map Ok ys) × (v.items ≡ ys)) (λ e. Contains rs (Err e))
    → AllZip (λ x q. IfOk q (λ y. y ≡ f x)) xs rs → IfOk r (λ v. v.items ≡ map f xs)
collected {E = E} f xs rs (Ok v) h z = rw h.2 (AllZip-map f xs h.0 (all_ok E f xs h.0 (rw h.1 at z)))
collected f xs rs (Err e) h z = tt
