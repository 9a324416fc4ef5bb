-- Lists of which one has some of the elements of another, in the same order.
use Rattle.std.specs.Prelude.{◌≡◌, ℕ, ◌<◌, List, [], ◌∷◌, ◌++◌, All, map, refl}
use Rattle.std.proofs.Common.{ap, sym, subst, inl, inr, arith}
use Rattle.std.proofs.lemmas.List.Elements.{All-head, All-tail, All-cons}
use Rattle.kr_explain_causes.specs.Causes.{IsSublist}

pub below_none : (k : ℕ) → k < 0 → ⊥
below_none k low = omega arith

module _ {X : Type 0} where
  -- a list has its own elements in order
  pub itself : (xs : List X) → IsSublist xs xs
  itself [] = tt
  itself (x ∷ xs) = inl (refl, itself xs)

  -- one element more, that the first list hasn't
  pub left_out : (xs ys : List X) (y : X) → IsSublist xs ys → IsSublist xs (ys ++ y ∷ [])
  left_out [] ys y is = tt
  left_out (x ∷ xs) [] y is = absurd is
  left_out (x ∷ xs) (z ∷ ys) y (inl both) = inl (both.0, left_out xs ys y both.1)
  left_out (x ∷ xs) (z ∷ ys) y (inr rest) = inr (left_out (x ∷ xs) ys y rest)

  -- one element more of both
  pub taken_on : (xs ys : List X) (y : X) → IsSublist xs ys → IsSublist (xs ++ y ∷ []) (ys ++ y ∷ [])
  taken_on [] [] y is = inl (refl, tt)
  taken_on [] (z ∷ ys) y is = inr (taken_on [] ys y tt)
  taken_on (x ∷ xs) [] y is = absurd is
  taken_on (x ∷ xs) (z ∷ ys) y (inl both) = inl (both.0, taken_on xs ys y both.1)
  taken_on (x ∷ xs) (z ∷ ys) y (inr rest) = inr (taken_on (x ∷ xs) ys y rest)

  -- from list to list
  pub through : (xs ys zs : List X) → IsSublist xs ys → IsSublist ys zs → IsSublist xs zs
  through [] ys zs is more = tt
  through (x ∷ xs) [] zs is more = absurd is
  through (x ∷ xs) (y ∷ ys) [] is more = absurd more
  through (x ∷ xs) (y ∷ ys) (z ∷ zs) (inl both) (inl two) = inl (subst (λ (u : X). x ≡ u) two.0 both.0, through xs ys zs both.1 two.1)
  through (x ∷ xs) (y ∷ ys) (z ∷ zs) (inr rest) (inl two) = inr (through (x ∷ xs) ys zs rest two.1)
  through (x ∷ xs) (y ∷ ys) (z ∷ zs) is (inr more) = inr (through (x ∷ xs) (y ∷ ys) zs is more)

  -- what holds of each element of the second holds of each of the first
  pub each_in : (P : X → Type 0) (xs ys : List X) → IsSublist xs ys → All P ys → All P xs
  each_in P [] ys is all = λ k d low. absurd (below_none k low)
  each_in P (x ∷ xs) [] is all = absurd is
  each_in P (x ∷ xs) (y ∷ ys) (inl both) all = All-cons P x xs (subst P (sym both.0) (All-head P y ys all)) (each_in P xs ys both.1 (All-tail P y ys all))
  each_in P (x ∷ xs) (y ∷ ys) (inr rest) all = each_in P (x ∷ xs) ys rest (All-tail P y ys all)

-- the same of what is made of each element
pub mapped : {X Y : Type 0} (f : X → Y) (xs ys : List X) → IsSublist xs ys → IsSublist (map f xs) (map f ys)
mapped f [] ys is = tt
mapped f (x ∷ xs) [] is = absurd is
mapped f (x ∷ xs) (y ∷ ys) (inl both) = inl (ap f both.0, mapped f xs ys both.1)
mapped f (x ∷ xs) (y ∷ ys) (inr rest) = inr (mapped f (x ∷ xs) ys rest)
