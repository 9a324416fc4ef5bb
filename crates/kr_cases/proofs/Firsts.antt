-- The first element that passes a test, found while a list is gone over.
use Rattle.std.proofs.Common.{◌≡◌, ℕ, suc, ◌+◌, ◌-◌, ◌<◌, Bool, true, false, cond, List, [], ◌∷◌, ◌++◌, Some, None, map, take, drop, get_or, length, refl, ap, sym, ◌∙◌, subst, drop-cons}
use Rattle.std.specs.List.{filter, flat_map}
use Rattle.std.proofs.lemmas.List.{take-append-drop}
use Rattle.std.proofs.lemmas.List.Elements.{filter-append}
use Rattle.std.proofs.lemmas.Grind.{flat_map-append}
use Rattle.kr_model.specs.Covers.{count_up}
use Rattle.kr_model.specs.Firsts.{first}
use Rattle.kr_cases.proofs.Counted.{before-more, before-split}

-- a list with no first element is empty
pub none_first : {A : Type 0} (xs : List A) → first xs ≡ None → xs ≡ []
none_first [] h = refl
none_first (x ∷ xs) h = absurd (cc)

-- the first of two lists put together, the first of which has one
first-append : {A : Type 0} (xs ys : List A) (a : A) → first xs ≡ Some a → first (xs ++ ys) ≡ Some a
first-append [] ys a h = absurd (cc)
first-append (x ∷ xs) ys a h = h

-- where nothing passes of what comes before, the first that passes is the first that passes of the list at k
found_after : {A B : Type 0} (test : B → Bool) (f : A → List B) (before after : List A) (k : A) (b : B)
    → filter test (flat_map f before) ≡ [] → first (filter test (f k)) ≡ Some b → first (filter test (flat_map f (before ++ k ∷ after))) ≡ Some b
found_after test f before after k b none here =
    rw (flat_map-append f before (k ∷ after), filter-append test (flat_map f before) (flat_map f (k ∷ after)), none, filter-append test (f k) (flat_map f after))
    (first-append (filter test (f k)) (filter test (flat_map f after)) b here)

-- where nothing passes of what comes before nor of the list at k, nothing passes of both
none_after : {A B : Type 0} (test : B → Bool) (f : A → List B) (before : List A) (k : A)
    → filter test (flat_map f before) ≡ [] → filter test (f k) ≡ [] → filter test (flat_map f (before ++ k ∷ [])) ≡ []
none_after test f before k none here =
    rw (flat_map-append f before (k ∷ []), filter-append test (flat_map f before) (flat_map f (k ∷ [])), none, filter-append test (f k) [], here)

-- the same of lists of one element each
one_each : {A B : Type 0} (test : B → Bool) (f : A → B) (xs : List A) → filter test (map f xs) ≡ filter test (flat_map (λ x. f x ∷ []) xs)
one_each test f [] = refl
one_each test f (x ∷ xs) = ap (λ rest. cond (test (f x)) (f x ∷ rest) rest) (one_each test f xs)

module _ {A : Type 0} (test : A → Bool) where
  -- counted lists: nothing passes of those before k, and the first that passes of list k is the first of all
  pub counted_found : (f : ℕ → List A) (n k : ℕ) (b : A) → k < n → filter test (flat_map f (count_up 0 k)) ≡ [] → first (filter test (f k)) ≡ Some b
      → first (filter test (flat_map f (count_up 0 n))) ≡ Some b
  counted_found f n k b low none here = rw (before-split n k low) (found_after test f (count_up 0 k) (count_up (k + 1) (n - (k + 1))) k b none here)

  -- counted lists: nothing passes of those before k nor of list k
  pub counted_none : (f : ℕ → List A) (k : ℕ) → filter test (flat_map f (count_up 0 k)) ≡ [] → first (filter test (f k)) ≡ None → filter test (flat_map f (count_up 0 (k + 1))) ≡ []
  counted_none f k none here = rw (before-more k) (none_after test f (count_up 0 k) k none (none_first (filter test (f k)) here))

  single_found : (x : A) → test x ≡ true → first (filter test (x ∷ [])) ≡ Some x
  single_found x h = rw h refl

  single_none : (x : A) → test x ≡ false → first (filter test (x ∷ [])) ≡ None
  single_none x h = rw h refl

  -- counted elements: none before k passes, and the one at k does
  pub element_found : (f : ℕ → A) (n k : ℕ) → k < n → filter test (map f (count_up 0 k)) ≡ [] → test (f k) ≡ true → first (filter test (map f (count_up 0 n))) ≡ Some (f k)
  element_found f n k low none here =
      ap first (one_each test f (count_up 0 n)) ∙ counted_found (λ k. f k ∷ []) n k (f k) low (sym (one_each test f (count_up 0 k)) ∙ none) (single_found (f k) here)

  -- counted elements: none before k passes, nor does the one at k
  pub element_none : (f : ℕ → A) (k : ℕ) → filter test (map f (count_up 0 k)) ≡ [] → test (f k) ≡ false → filter test (map f (count_up 0 (k + 1))) ≡ []
  element_none f k none here =
      one_each test f (count_up 0 (k + 1)) ∙ counted_none (λ k. f k ∷ []) k (sym (one_each test f (count_up 0 k)) ∙ none) (single_none (f k) here)

  -- none passes of what was counted, which is all
  pub none_of_all : (f : List ℕ → List A) (n k : ℕ) → k ≡ n → filter test (f (count_up 0 k)) ≡ [] → first (filter test (f (count_up 0 n))) ≡ None
  none_of_all f n k e none = rw (← e, none) refl

  -- listed lists: nothing passes of those before place i, and the first that passes of the list there is the first of all
  pub listed_found : {B : Type 0} (f : B → List A) (xs : List B) (i : ℕ) (d : B) (b : A) → i < length xs → filter test (flat_map f (take i xs)) ≡ []
      → first (filter test (f (get_or xs i d))) ≡ Some b → first (filter test (flat_map f xs)) ≡ Some b
  listed_found f xs i d b low none here =
      let parts : take i xs ++ get_or xs i d ∷ drop (suc i) xs ≡ xs = ap (λ rest. take i xs ++ rest) (sym (drop-cons xs i d low)) ∙ take-append-drop i xs in
      subst (λ all. first (filter test (flat_map f all)) ≡ Some b) parts (found_after test f (take i xs) (drop (suc i) xs) (get_or xs i d) b none here)
