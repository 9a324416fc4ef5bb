-- A thing that changes where it stands in a list.
use Rattle.std.proofs.Common.{◌≡◌, ℕ, zero, suc, ◌<◌, length, get_or, set, List, [], ◌∷◌, refl, sym, ◌∙◌, ap, arith}
use Rattle.std.specs.Prelude.{T, IsTrue}
use Rattle.std.specs.declared.cmp.Ordering.TheVariants.{Equal, Greater}
use Rattle.std.specs.Ordering.{nat_cmp, is_lt}
use Rattle.std.specs.FinMap.{put, is_sorted}
use Rattle.std.specs.FinMap.Entries.{below_all, by_order}
use Rattle.std.proofs.lemmas.Bool.Decides.{nat_tests}
use Rattle.kr_model.proofs.MapLaws.{t_of}
use Rattle.kr_model.proofs.Trees.{first, second}
use Rattle.kr_txn.specs.Numbered.{entry, entries, IsPosition}
use Rattle.kr_txn.proofs.Lists.{length_entries}

greater : (t k x : ℕ) → x ≡ t → T (is_lt (nat_cmp k x)) → nat_cmp t k ≡ Greater
greater t k x e h = grind (arith, nat_tests)

equal : (t k : ℕ) → k ≡ t → nat_cmp t k ≡ Equal
equal t k e = grind (arith, nat_tests)

module _ {X V : Type 0} (number : X → ℕ) (value : X → V) where
  above_head : (t k : ℕ) (xs : List X) (i : ℕ) → T (below_all nat_cmp k (entries number value xs)) → i < length xs → ((d : X) → number (get_or xs i d) ≡ t) → nat_cmp t k ≡ Greater
  above_head t k [] i h lt here = absurd (omega arith)
  above_head t k (x ∷ xs) zero h lt here = greater t k (number x) (here x) (first _ _ h)
  above_head t k (x ∷ xs) (suc i) h lt here = above_head t k xs i (second _ _ h) (omega arith) here

  set_is_put : (s : X) (xs : List X) (i : ℕ) → i < length xs → ((d : X) → number (get_or xs i d) ≡ number s) → T (is_sorted nat_cmp (entries number value xs)) → entries number value (set xs i s) ≡ put nat_cmp (number s) (value s) (entries number value xs)
  set_is_put s [] i lt here h = absurd (omega arith)
  set_is_put s (x ∷ xs) zero lt here h =
      ap (λ k. (k, value s) ∷ entries number value xs) (sym (here x))
      ∙ sym (ap (λ o. by_order o (entry number value s ∷ entry number value x ∷ entries number value xs) ((number x, value s) ∷ entries number value xs) (entry number value x ∷ put nat_cmp (number s) (value s) (entries number value xs)))
      (equal (number s) (number x) (here x)))
  set_is_put s (x ∷ xs) (suc i) lt here h =
      ap (λ l. entry number value x ∷ l) (set_is_put s xs i (omega arith) here (second _ _ h))
      ∙ sym (ap (λ o. by_order o (entry number value s ∷ entry number value x ∷ entries number value xs) ((number x, value s) ∷ entries number value xs) (entry number value x ∷ put nat_cmp (number s) (value s) (entries number value xs)))
      (above_head (number s) (number x) xs i (first _ _ h) (omega arith) here))

  -- A thing that is written with the number and the value of the one at its place changes no entry.
  pub set_same : (s : X) (xs : List X) (i : ℕ) (d : X) → i < length xs → number s ≡ number (get_or xs i d) → value s ≡ value (get_or xs i d) → entries number value (set xs i s) ≡ entries number value xs
  set_same s [] i d lt same_number same_value = absurd (omega arith)
  set_same s (x ∷ xs) zero d lt same_number same_value = ap (λ k. (k, value s) ∷ entries number value xs) same_number ∙ ap (λ v. (number x, v) ∷ entries number value xs) same_value
  set_same s (x ∷ xs) (suc i) d lt same_number same_value = ap (λ l. entry number value x ∷ l) (set_same s xs i d (omega arith) same_number same_value)

  same_numbers : (xs ys : List X) → entries number value xs ≡ entries number value ys → (j : ℕ) (d : X) → number (get_or xs j d) ≡ number (get_or ys j d)
  same_numbers [] [] e j d = refl
  same_numbers [] (y ∷ ys) e j d = cc
  same_numbers (x ∷ xs) [] e j d = cc
  same_numbers (x ∷ xs) (y ∷ ys) e zero d = let same : entry number value x ≡ entry number value y = cc in ap (λ (a : ℕ × V). a.0) same
  same_numbers (x ∷ xs) (y ∷ ys) e (suc j) d = same_numbers xs ys (cc) j d

  -- In a list with the same entries, a number has the same place.
  pub same_position : (t : ℕ) (xs ys : List X) (i : ℕ) → entries number value xs ≡ entries number value ys → IsPosition number t ys i → IsPosition number t xs i
  same_position t xs ys i e at =
      let as_long = sym (length_entries number value xs) ∙ ap (λ l. length l) e ∙ length_entries number value ys in
      let inside = at.within in
      record {
        within = omega (arith, as_long, inside);
        others = λ j d lt is. at.others j d lt (sym (same_numbers xs ys e j d) ∙ is);
        here = λ d. same_numbers xs ys e i d ∙ at.here d;
      }

  -- What is written at its place is put over what stood there.
  pub put_at_place : (s : X) (xs : List X) (i : ℕ) → i < length xs → ((d : X) → number (get_or xs i d) ≡ number s) → IsTrue (is_sorted nat_cmp (entries number value xs)) → entries number value (set xs i s) ≡ put nat_cmp (number s) (value s) (entries number value xs)
  put_at_place s xs i lt here h = set_is_put s xs i lt here (t_of (is_sorted nat_cmp (entries number value xs)) h)
