-- What `retain` leaves, where its closure answers a test and stays as it is.
use Rattle.std.proofs.Common.{◌≡◌, Bool, true, false, cond, List, [], ◌∷◌, length, ap, ◌∙◌, refl, arith, subst, filter}
use Rattle.std.specs.List.{items_where_true}
use Rattle.std.specs.List.Retain.{IsFiltered, ReturnsInTurn}

module _ {X F : Type 0} (R : F → X → Bool → F → Type 0) (test : X → Bool) (f : F) (h : (x : X) (b : Bool) (g : F) → R f x b g → (b ≡ test x) × (g ≡ f)) where
  first_by : (x : X) (xs ys : List X) (bs : List Bool) (b t : Bool) → b ≡ t → items_where_true bs xs ≡ ys → items_where_true (b ∷ bs) (x ∷ xs) ≡ cond t (x ∷ ys) ys
  first_by x xs ys bs true t e rest = ap (λ l. x ∷ l) rest ∙ ap (λ a. cond a (x ∷ ys) ys) e
  first_by x xs ys bs false t e rest = rest ∙ ap (λ a. cond a (x ∷ ys) ys) e

  told_by : (q : F) (bs : List Bool) (xs : List X) → length bs ≡ length xs → ReturnsInTurn R f bs xs q → items_where_true bs xs ≡ filter test xs
  told_by q [] [] e t = refl
  told_by q [] (x ∷ xs) e t = absurd (omega arith)
  told_by q (b ∷ bs) [] e t = absurd t
  told_by q (b ∷ bs) (x ∷ xs) e t =
      let one = h x b t.0 t.1 in
      first_by x xs (filter test xs) bs b (test x) one.0 (told_by q bs xs (omega arith) (subst (λ (y : F). ReturnsInTurn R y bs xs q) one.1 t.2))

  pub filter_from_retained : (xs ys : List X) → IsFiltered R f xs ys → ys ≡ filter test xs
  filter_from_retained xs ys k = k.4 ∙ told_by k.1 k.0 xs k.2 k.3
