-- From a test that is computed over names to what the names of modes keep.
use Rattle.std.specs.Prelude.{◌≡◌, ◌≢◌, ℕ, zero, suc, ◌<◌, ◌≤◌, Bool, true, false, ◌&&◌, not, nat_lt, nat_le, ◌==◌, List, [], ◌∷◌, length, refl, All, AllPairs, slice_index_or}
use Rattle.std.specs.List.{list_all}
use Rattle.std.proofs.Common.{subst, arith}
use Rattle.std.proofs.lemmas.Bool.Decides.{nat_tests}
use Rattle.kr_model.specs.ModeNames.{AreModeNames, IsModeName, none_name}
use Rattle.kr_model.proofs.Tested.{and_first, and_second, all_true, test_at, eq_of_test, le_of_test}

-- whether two texts are one
abbrev pub same_text : List ℕ → List ℕ → Bool
same_text [] [] = true
same_text (x ∷ xs) (y ∷ ys) = (x == y) && same_text xs ys
same_text [] (y ∷ ys) = false
same_text (x ∷ xs) [] = false

-- whether a byte is from space to tilde
abbrev pub is_printable : ℕ → Bool
is_printable b = nat_le 32 b && nat_le b 126

-- what a name of a mode keeps, part by part
abbrev pub name_tests : List ℕ → List Bool
name_tests name = nat_lt 0 (length name) ∷ nat_le (length name) 24 ∷ list_all is_printable name ∷ not (same_text name none_name) ∷ []

-- whether a mode may bear the name
abbrev pub is_mode_name : List ℕ → Bool
is_mode_name name = all_true (name_tests name)

-- whether no two names are alike
abbrev pub are_distinct : List (List ℕ) → Bool
are_distinct [] = true
are_distinct (n ∷ ns) = list_all (λ m. not (same_text n m)) ns && are_distinct ns

-- what the names of so many modes keep, part by part
abbrev pub names_tests : List (List ℕ) → ℕ → List Bool
names_tests names count = (length names == count) ∷ list_all is_mode_name names ∷ are_distinct names ∷ []

-- whether these are the names of so many modes
abbrev pub are_mode_names : List (List ℕ) → ℕ → Bool
are_mode_names names count = all_true (names_tests names count)

lt_of_test : (a b : ℕ) → nat_lt a b ≡ true → a < b
lt_of_test a b h = grind (arith, nat_tests)

same_text-itself : (xs : List ℕ) → same_text xs xs ≡ true
same_text-itself [] = refl
same_text-itself (x ∷ xs) = let e = same_text-itself xs in grind (arith, nat_tests, e)

not_true : (b : Bool) → not b ≡ true → b ≡ true → ⊥
not_true true h e = absurd (cc)
not_true false h e = absurd (cc)

apart_of_test : (xs ys : List ℕ) → not (same_text xs ys) ≡ true → xs ≢ ys
apart_of_test xs ys h e = not_true (same_text xs ys) h (subst (λ zs. same_text xs zs ≡ true) e (same_text-itself xs))

each_of_test : {A : Type 0} (test : A → Bool) (xs : List A) → list_all test xs ≡ true → All (λ x. test x ≡ true) xs
each_of_test test [] h k d low = absurd (omega arith)
each_of_test test (x ∷ xs) h zero d low = and_first (test x) (list_all test xs) h
each_of_test test (x ∷ xs) h (suc k) d low = each_of_test test xs (and_second (test x) (list_all test xs) h) k d (omega arith)

printable_of_test : (b : ℕ) → is_printable b ≡ true → (32 ≤ b) × (b ≤ 126)
printable_of_test b h = (le_of_test 32 b (and_first (nat_le 32 b) (nat_le b 126) h), le_of_test b 126 (and_second (nat_le 32 b) (nat_le b 126) h))

mode_name_of_test : (name : List ℕ) → is_mode_name name ≡ true → IsModeName name
mode_name_of_test name h =
    record {
      some = lt_of_test 0 (length name) (test_at (name_tests name) h 0);
      short = le_of_test (length name) 24 (test_at (name_tests name) h 1);
      printable = λ k d low. printable_of_test (slice_index_or name k d) (each_of_test is_printable name (test_at (name_tests name) h 2) k d low);
      not_none = apart_of_test name none_name (test_at (name_tests name) h 3);
    }

distinct_of_test : (names : List (List ℕ)) → are_distinct names ≡ true → AllPairs (λ a b. a ≢ b) names
distinct_of_test [] h i j d before low = absurd (omega arith)
distinct_of_test (n ∷ ns) h i zero d before low = absurd (omega arith)
distinct_of_test (n ∷ ns) h zero (suc j) d before low =
    apart_of_test n (slice_index_or ns j d) (each_of_test (λ m. not (same_text n m)) ns (and_first _ _ h) j d (omega arith))
distinct_of_test (n ∷ ns) h (suc i) (suc j) d before low = distinct_of_test ns (and_second _ _ h) i j d (omega arith) (omega arith)

-- names that pass the test are the names of so many modes
pub named_by_test : (names : List (List ℕ)) (count : ℕ) → are_mode_names names count ≡ true → AreModeNames names count
named_by_test names count h =
    record {
      one_each = eq_of_test (length names) count (test_at (names_tests names count) h 0);
      each = λ k d low. mode_name_of_test (slice_index_or names k d) (each_of_test is_mode_name names (test_at (names_tests names count) h 1) k d low);
      distinct = distinct_of_test names (test_at (names_tests names count) h 2);
    }
