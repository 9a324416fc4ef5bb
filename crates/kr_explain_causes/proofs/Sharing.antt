-- Lists that are shared out, one element or one part after another.
use Rattle.std.specs.Prelude.{◌≡◌, ◌≢◌, Bool, true, false, ℕ, ◌+◌, ◌<◌, List, [], ◌∷◌, ◌++◌, length, take, get_or}
use Rattle.std.specs.List.Sorted.{IsPermutation}
use Rattle.std.proofs.Common.{sym, ap, subst, ◌∙◌, arith, append_assoc, length-append}
use Rattle.std.proofs.lemmas.Bool.Decides.{nat_tests}
use Rattle.std.proofs.lemmas.List.{append-nil, length-map, map-append, take_more}
use Rattle.std.proofs.lemmas.Grind.{flat_map-append}
use Rattle.std.proofs.lemmas.List.Sorted.{IsPermutation-trans, IsPermutation-append_left, IsPermutation-append_right, IsPermutation-to_front, length_permutation}
use Rattle.kr_model.specs.declared.FailedCase.{FailedCase}
use Rattle.kr_explain_causes.specs.declared.cause.Cause.{Cause}
use Rattle.kr_explain_causes.specs.declared.cause.Suspect.{Suspect}
use Rattle.kr_explain_causes.specs.Causes.{all_cases, cases_of}

module _ {X : Type 0} where
  -- one element more, that goes to the end of the second list
  pub more_kept : (xs taken kept : List X) (x : X) → IsPermutation xs (taken ++ kept) → IsPermutation (xs ++ x ∷ []) (taken ++ (kept ++ x ∷ []))
  more_kept xs taken kept x is = subst (IsPermutation (xs ++ x ∷ [])) (append_assoc taken kept (x ∷ [])) (IsPermutation-append_left (x ∷ []) xs (taken ++ kept) is)

  -- one element more, that goes to the end of the first list
  pub more_taken : (xs taken kept : List X) (x : X) → IsPermutation xs (taken ++ kept) → IsPermutation (xs ++ x ∷ []) ((taken ++ x ∷ []) ++ kept)
  more_taken xs taken kept x is =
      subst (IsPermutation (xs ++ x ∷ [])) (sym (append_assoc taken (x ∷ []) kept))
      (IsPermutation-trans (xs ++ x ∷ []) (taken ++ (kept ++ x ∷ [])) (taken ++ (x ∷ kept)) (more_kept xs taken kept x is)
      (IsPermutation-append_right taken (kept ++ x ∷ []) (x ∷ kept) (IsPermutation-to_front kept x)))

  -- what is left is parted once more
  pub parted : (xs done left taken kept : List X) → IsPermutation xs (done ++ left) → IsPermutation left (taken ++ kept) → IsPermutation xs ((done ++ taken) ++ kept)
  parted xs done left taken kept all part =
      subst (IsPermutation xs) (sym (append_assoc done taken kept))
      (IsPermutation-trans xs (done ++ left) (done ++ (taken ++ kept)) all (IsPermutation-append_right done left (taken ++ kept) part))

  -- fewer are left once some are taken
  pub fewer : (left taken kept : List X) → IsPermutation left (taken ++ kept) → 0 < length taken → length kept < length left
  fewer left taken kept part some =
      let same : length (taken ++ kept) ≡ length left = length_permutation left (taken ++ kept) part in
      let both : length (taken ++ kept) ≡ length taken + length kept = length-append taken kept in
      omega (arith, same, both, some)

-- the cases of one cause more
pub all_cases-more : (causes : List Cause) (c : Cause) → all_cases (causes ++ c ∷ []) ≡ all_cases causes ++ c.cases.items
all_cases-more causes c = flat_map-append (λ c. c.cases.items) causes (c ∷ []) ∙ ap (λ xs. all_cases causes ++ xs) (append-nil c.cases.items)

-- the cases of one suspect more
pub cases_of-push : (suspects : List Suspect) (s : Suspect) → cases_of (suspects ++ s ∷ []) ≡ cases_of suspects ++ s.case ∷ []
cases_of-push suspects s = map-append (λ s. s.case) suspects (s ∷ [])

pub cases_of-take : (suspects : List Suspect) (i : ℕ) (d : Suspect) → i < length suspects → cases_of (take (i + 1) suspects) ≡ cases_of (take i suspects) ++ (get_or suspects i d).case ∷ []
cases_of-take suspects i d low = ap cases_of (take_more suspects i d low) ∙ cases_of-push (take i suspects) (get_or suspects i d)

-- one suspect more that is explained
pub taken_next : (suspects : List Suspect) (i : ℕ) (d : Suspect) (taken taken2 : List FailedCase) (left left2 : List Suspect) → i < length suspects → IsPermutation (cases_of (take i suspects)) (taken ++ cases_of left) → taken2 ≡ taken ++ (get_or suspects i d).case ∷ [] → left2 ≡ left → IsPermutation (cases_of (take (i + 1) suspects)) (taken2 ++ cases_of left2)
taken_next suspects i d taken taken2 left left2 low is more same =
    subst (λ (xs : List FailedCase). IsPermutation xs (taken2 ++ cases_of left2)) (sym (cases_of-take suspects i d low))
    (subst (λ (xs : List FailedCase). IsPermutation (cases_of (take i suspects) ++ (get_or suspects i d).case ∷ []) (xs ++ cases_of left2)) (sym more)
    (subst (λ (ss : List Suspect). IsPermutation (cases_of (take i suspects) ++ (get_or suspects i d).case ∷ []) ((taken ++ (get_or suspects i d).case ∷ []) ++ cases_of ss)) (sym same)
    (more_taken (cases_of (take i suspects)) taken (cases_of left) (get_or suspects i d).case is)))

-- one suspect more that is left
pub kept_next : (suspects : List Suspect) (i : ℕ) (d : Suspect) (taken taken2 : List FailedCase) (left left2 : List Suspect) → i < length suspects → IsPermutation (cases_of (take i suspects)) (taken ++ cases_of left) → taken2 ≡ taken → left2 ≡ left ++ get_or suspects i d ∷ [] → IsPermutation (cases_of (take (i + 1) suspects)) (taken2 ++ cases_of left2)
kept_next suspects i d taken taken2 left left2 low is same more =
    subst (λ (xs : List FailedCase). IsPermutation xs (taken2 ++ cases_of left2)) (sym (cases_of-take suspects i d low))
    (subst (λ (xs : List FailedCase). IsPermutation (cases_of (take i suspects) ++ (get_or suspects i d).case ∷ []) (xs ++ cases_of left2)) (sym same)
    (subst (λ (xs : List FailedCase). IsPermutation (cases_of (take i suspects) ++ (get_or suspects i d).case ∷ []) (taken ++ xs)) (sym (ap cases_of more ∙ cases_of-push left (get_or suspects i d)))
    (more_kept (cases_of (take i suspects)) taken (cases_of left) (get_or suspects i d).case is)))

-- a list with one element more is not empty
pub some_more : {X : Type 0} (xs xs2 : List X) (x : X) → xs2 ≡ xs ++ x ∷ [] → 0 < length xs2
some_more xs xs2 x is = omega (arith, ap length is, length-append xs (x ∷ []))

-- what is not the last so far comes before it
earlier : (first number : ℕ) → first < number + 1 → number ≢ first → first < number
earlier first number low other = grind (arith, nat_tests)

-- the leader comes before a suspect that is not explained
pub leader_before : (first number : ℕ) (explained : Bool) → first < number + 1 → explained ≡ false → (number ≡ first → explained ≡ true) → first < number
leader_before first number explained low isnt if_first = earlier first number low (λ e. never explained isnt (if_first e))
  where
    never : (b : Bool) → b ≡ false → b ≡ true → ⊥
    never b p q = cc

-- fewer suspects are left
pub fewer_left : (left now : List Suspect) (taken : List FailedCase) (kept : List Suspect) → now ≡ left → IsPermutation (cases_of now) (taken ++ cases_of kept) → 0 < length taken → length kept < length left
fewer_left left now taken kept is part some =
    let less : length (cases_of kept) < length (cases_of now) = fewer (cases_of now) taken (cases_of kept) part some in
    let before : length (cases_of now) ≡ length now = length-map now (λ s. s.case) in
    let after : length (cases_of kept) ≡ length kept = length-map kept (λ s. s.case) in
    omega (arith, less, before, after, ap length is)

-- one cause more, with the cases that it explains
pub shared_next : (failed : List FailedCase) (causes causes2 : List Cause) (c : Cause) (left now kept : List Suspect) → now ≡ left → IsPermutation failed (all_cases causes ++ cases_of left) → IsPermutation (cases_of now) (c.cases.items ++ cases_of kept) → causes2 ≡ causes ++ c ∷ [] → IsPermutation failed (all_cases causes2 ++ cases_of kept)
shared_next failed causes causes2 c left now kept is all part more =
    subst (λ (xs : List FailedCase). IsPermutation failed (xs ++ cases_of kept)) (sym (ap all_cases more ∙ all_cases-more causes c))
    (parted failed (all_cases causes) (cases_of left) c.cases.items (cases_of kept) all (subst (λ (ss : List Suspect). IsPermutation (cases_of ss) (c.cases.items ++ cases_of kept)) is part))
