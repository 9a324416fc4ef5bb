-- What a list of cases gives, while it is gone over.
use Rattle.std.proofs.Common.{◌≡◌, ◌≢◌, ℕ, zero, suc, ◌<◌, List, [], ◌∷◌, ◌++◌, Option, Some, None, map, get_or, length, refl, ap, sym, ◌∙◌, subst, append_assoc, inl, inr, arith}
use Rattle.std.specs.List.{filter_map, flat_map, cons_option}
use Rattle.std.specs.Option.{option_to_list}
use Rattle.std.proofs.lemmas.List.{map-append, append-nil}
use Rattle.std.proofs.lemmas.List.Elements.{filter_map-append}
use Rattle.std.proofs.lemmas.Grind.{flat_map-append}
use Rattle.kr_model.specs.Covers.{is_empty}
use Rattle.kr_model.proofs.Guarantees.{In, in_map, each_none}

-- an element of a list stands in it
pub in_listed : {A : Type 0} (xs : List A) (i : ℕ) (d : A) → i < length xs → In (get_or xs i d) xs
in_listed [] i d low = absurd (omega arith)
in_listed (x ∷ xs) zero d low = inl refl
in_listed (x ∷ xs) (suc i) d low = inr (in_listed xs i d (omega arith))

-- two lists that are empty together are each empty
left : {A : Type 0} (xs ys : List A) → xs ++ ys ≡ [] → xs ≡ []
left [] ys e = refl
left (x ∷ xs) ys e = absurd (cc)

right : {A : Type 0} (xs ys : List A) → xs ++ ys ≡ [] → ys ≡ []
right [] ys e = e
right (x ∷ xs) ys e = absurd (cc)

module _ {A B : Type 0} (f : A → Option B) where
  single : (a : A) → filter_map f (a ∷ []) ≡ option_to_list (f a)
  single a = of (f a)
    where
      of : (o : Option B) → cons_option o [] ≡ option_to_list o
      of None = refl
      of (Some b) = refl

  -- what the elements so far give, and then what one more gives
  pub element_more : {K : Type 0} (g : K → A) (bs now next : List B) (before after : List K) (k : K) → after ≡ before ++ k ∷ []
      → now ≡ bs ++ filter_map f (map g before) → next ≡ now ++ option_to_list (f (g k)) → next ≡ bs ++ filter_map f (map g after)
  element_more g bs now next before after k e so_far more =
      more ∙ ap (λ xs. xs ++ option_to_list (f (g k))) so_far
      ∙ append_assoc bs (filter_map f (map g before)) (option_to_list (f (g k)))
      ∙ ap (λ xs. bs ++ xs) (ap (λ xs. filter_map f (map g before) ++ xs) (sym (single (g k))) ∙ sym (filter_map-append f (map g before) (g k ∷ [])) ∙ ap (filter_map f) (sym (map-append g before (k ∷ [])) ∙ ap (map g) (sym e)))

  -- what the lists so far give, and then what one more list gives
  pub list_more : {K : Type 0} (g : K → List A) (bs now next : List B) (before after : List K) (k : K) → after ≡ before ++ k ∷ []
      → now ≡ bs ++ filter_map f (flat_map g before) → next ≡ now ++ filter_map f (g k) → next ≡ bs ++ filter_map f (flat_map g after)
  list_more g bs now next before after k e so_far more =
      more ∙ ap (λ xs. xs ++ filter_map f (g k)) so_far
      ∙ append_assoc bs (filter_map f (flat_map g before)) (filter_map f (g k))
      ∙ ap (λ xs. bs ++ xs) (sym (filter_map-append f (flat_map g before) (g k)) ∙ ap (filter_map f) (last ∙ ap (flat_map g) (sym e)))
    where
      last : flat_map g before ++ g k ≡ flat_map g (before ++ k ∷ [])
      last = rw (flat_map-append g before (k ∷ []), append-nil (g k)) refl

  none_given : (xs : List A) (a : A) → In a xs → f a ≢ None → filter_map f xs ≢ []
  none_given xs a is some e = some (each_none f xs (ap is_empty e) a is)

  -- an element that gives something
  pub element_gives : {K : Type 0} (g : K → A) (ks : List K) (k : K) → In k ks → f (g k) ≢ None → filter_map f (map g ks) ≢ []
  element_gives g ks k is some = none_given (map g ks) (g k) (in_map g k ks is) some

  -- a list that gives something
  pub list_gives : {K : Type 0} (g : K → List A) (ks : List K) (k : K) → In k ks → filter_map f (g k) ≢ [] → filter_map f (flat_map g ks) ≢ []
  list_gives {K = K} g ks k is some e = some (none_of ks is e)
    where
      none_of : (ks : List K) → In k ks → filter_map f (flat_map g ks) ≡ [] → filter_map f (g k) ≡ []
      none_of [] is e = absurd is
      none_of (j ∷ ks) (inl same) e = subst (λ x. filter_map f (g x) ≡ []) same (left (filter_map f (g j)) (filter_map f (flat_map g ks)) (sym (filter_map-append f (g j) (flat_map g ks)) ∙ e))
      none_of (j ∷ ks) (inr is) e = none_of ks is (right (filter_map f (g j)) (filter_map f (flat_map g ks)) (sym (filter_map-append f (g j) (flat_map g ks)) ∙ e))
