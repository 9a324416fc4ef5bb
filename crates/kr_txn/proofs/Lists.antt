-- Numbered things in a list: without one of them, and with one more.
use Rattle.std.specs.List.{insert}
use Rattle.std.proofs.lemmas.Bool.Decides.{nat_tests}
use Rattle.std.proofs.Common.{◌≡◌, ◌≢◌, ℕ, zero, suc, ◌<◌, ◌≤◌, length, get_or, take, drop, Bool, true, false, cond, Option, Some, None, List, [], ◌∷◌, ◌++◌, ◌&&◌, sym, ◌∙◌, ap, refl, arith, subst}
use Rattle.std.specs.Prelude.{T, IsTrue, ◌==◌, not}
use Rattle.std.specs.declared.cmp.Ordering.{Ordering}
use Rattle.std.specs.declared.cmp.Ordering.TheVariants.{Less, Equal, Greater}
use Rattle.std.specs.Ordering.{nat_cmp, eq_by_cmp, is_lt}
use Rattle.std.specs.FinMap.{find, put, is_sorted}
use Rattle.std.specs.FinMap.Entries.{below_all, by_order, find-put, find-where_key, is_sorted-put, is_sorted-where_key, same_entries}
use Rattle.std.specs.Cmp.{nat_cmp_total}
use Rattle.std.proofs.lemmas.Map.Lookups.{exact_unsigned}
use Rattle.std.specs.Prelude.{Result, Ok, Err, IsOk, OnOk}
use Rattle.std.specs.Result.{is_ok}
use Rattle.std.specs.Option.{is_some}
use Rattle.kr_txn.specs.Numbered.{entry, entries, without_txn, AreOthers}

first : (a b : Bool) → T (a && b) → T a
first true b p = tt
first false b p = p

second : (a b : Bool) → T (a && b) → T b
second true b p = p
second false b p = absurd p

of_t : (b : Bool) → T b → IsTrue b
of_t true h = refl
of_t false h = absurd h

-- Numbers that are one, and numbers that aren't --

below_apart : (t k : ℕ) → T (is_lt (nat_cmp t k)) → (k == t) ≡ false
below_apart t k h = by (nat_cmp t k) refl h
  where
    by : (o : Ordering) → nat_cmp t k ≡ o → T (is_lt o) → (k == t) ≡ false
    by Less e p = grind (arith, nat_tests)
    by Equal e p = absurd p
    by Greater e p = absurd p

apart : (k t : ℕ) → k ≢ t → (k == t) ≡ false
apart k t h = grind (arith, nat_tests)

same : (k t : ℕ) → k ≡ t → (k == t) ≡ true
same k t h = grind (arith, nat_tests)

keys_apart : (k t : ℕ) → k ≢ t → eq_by_cmp nat_cmp t k ≡ false
keys_apart k t h = grind (arith, nat_tests)

keys_same : (k t : ℕ) → k ≡ t → eq_by_cmp nat_cmp t k ≡ true
keys_same k t h = grind (arith, nat_tests)

key_apart : (t k : ℕ) → eq_by_cmp nat_cmp t k ≡ false → k ≢ t
key_apart t k e e2 = grind (arith, nat_tests)

not_itself : (t : ℕ) → not (t == t) ≡ false
not_itself t = grind (arith, nat_tests)

tied_key : (q t : ℕ) → eq_by_cmp nat_cmp q t ≡ true → q ≡ t
tied_key q t e = grind (arith, nat_tests)

untied_key : (q t : ℕ) → eq_by_cmp nat_cmp q t ≡ false → (q == t) ≡ false
untied_key q t e = grind (arith, nat_tests)

cmp_less : (t k : ℕ) → t < k → nat_cmp t k ≡ Less
cmp_less t k h = grind (arith, nat_tests)

cmp_greater : (t k : ℕ) → k < t → nat_cmp t k ≡ Greater
cmp_greater t k h = grind (arith, nat_tests)

some_none : {V : Type 0} (a : V) → Some a ≡ None → ⊥
some_none a e = cc

-- Entries --

all_stay : {V : Type 0} (t : ℕ) (es : List (ℕ × V)) → T (below_all nat_cmp t es) → without_txn t es ≡ es
all_stay t [] h = refl
all_stay t (e ∷ es) h = ap (λ b. cond (not b) (e ∷ without_txn t es) (without_txn t es)) (below_apart t e.0 (first _ _ h)) ∙ ap (λ l. e ∷ l) (all_stay t es (second _ _ h))

-- A number isn't among the rest.
pub find-without : {V : Type 0} (t : ℕ) (es : List (ℕ × V)) → find nat_cmp t (without_txn t es) ≡ None
find-without t es = find-where_key nat_cmp (λ k. not (k == t)) t (λ x e. ap (λ y. not (y == t)) (sym (exact_unsigned t x e))) es ∙ ap (λ b. cond b (find nat_cmp t es) None) (not_itself t)

module _ {V : Type 0} (t : ℕ) (es : List (ℕ × V)) (s : IsTrue (is_sorted nat_cmp es)) where
  sorted : T (is_sorted nat_cmp es)
  sorted = subst (λ (c : Bool). T c) (sym s) tt

  -- Without an entry, the numbers still rise.
  pub sorted-without : T (is_sorted nat_cmp (without_txn t es))
  sorted-without = is_sorted-where_key nat_cmp (λ k. not (k == t)) es sorted

  find-rest : (q : ℕ) → find nat_cmp q (without_txn t es) ≡ cond (not (q == t)) (find nat_cmp q es) None
  find-rest q = find-where_key nat_cmp (λ k. not (k == t)) q (λ x e. ap (λ y. not (y == t)) (sym (exact_unsigned q x e))) es

  back_at : (a : V) (q : ℕ) (b c : Bool) → eq_by_cmp nat_cmp q t ≡ b → (q == t) ≡ c → find nat_cmp t es ≡ Some a → cond b (Some a) (cond (not c) (find nat_cmp q es) None) ≡ find nat_cmp q es
  back_at a q true c e f h = sym h ∙ ap (λ k. find nat_cmp k es) (sym (tied_key q t e))
  back_at a q false c e f h = ap (λ x. cond (not x) (find nat_cmp q es) None) (sym f ∙ untied_key q t e)

  -- Taken out and put back, the list is the same.
  pub put_back : (a : V) → find nat_cmp t es ≡ Some a → put nat_cmp t a (without_txn t es) ≡ es
  put_back a h = same_entries nat_cmp nat_cmp_total exact_unsigned (put nat_cmp t a (without_txn t es)) es (is_sorted-put nat_cmp nat_cmp_total t a (without_txn t es) sorted-without) sorted (λ q.
      find-put nat_cmp nat_cmp_total q t a (without_txn t es) ∙ ap (λ x. cond (eq_by_cmp nat_cmp q t) (Some a) x) (find-rest q)
      ∙ back_at a q (eq_by_cmp nat_cmp q t) (q == t) refl refl h)

  over_at : (a b : V) (o : Option V) (c : Bool) → cond c (Some b) (cond c (Some a) o) ≡ cond c (Some b) o
  over_at a b o true = refl
  over_at a b o false = refl

  -- A second value takes the place of the first.
  pub put-put : (a b : V) → put nat_cmp t b (put nat_cmp t a es) ≡ put nat_cmp t b es
  put-put a b = same_entries nat_cmp nat_cmp_total exact_unsigned (put nat_cmp t b (put nat_cmp t a es)) (put nat_cmp t b es) (is_sorted-put nat_cmp nat_cmp_total t b (put nat_cmp t a es) (is_sorted-put nat_cmp nat_cmp_total t a es sorted)) (is_sorted-put nat_cmp nat_cmp_total t b es sorted) (λ q.
      find-put nat_cmp nat_cmp_total q t b (put nat_cmp t a es) ∙ ap (λ x. cond (eq_by_cmp nat_cmp q t) (Some b) x) (find-put nat_cmp nat_cmp_total q t a es)
      ∙ over_at a b (find nat_cmp q es) (eq_by_cmp nat_cmp q t) ∙ sym (find-put nat_cmp nat_cmp_total q t b es))

  over_rest : (b : V) (q : ℕ) (c d : Bool) → eq_by_cmp nat_cmp q t ≡ c → (q == t) ≡ d → cond c (Some b) (cond (not d) (find nat_cmp q es) None) ≡ cond c (Some b) (find nat_cmp q es)
  over_rest b q true d e f = refl
  over_rest b q false d e f = ap (λ x. cond (not x) (find nat_cmp q es) None) (sym f ∙ untied_key q t e)

  -- Put among the rest, an entry is put over itself.
  pub put-rest : (b : V) → put nat_cmp t b (without_txn t es) ≡ put nat_cmp t b es
  put-rest b = same_entries nat_cmp nat_cmp_total exact_unsigned (put nat_cmp t b (without_txn t es)) (put nat_cmp t b es) (is_sorted-put nat_cmp nat_cmp_total t b (without_txn t es) sorted-without) (is_sorted-put nat_cmp nat_cmp_total t b es sorted) (λ q.
      find-put nat_cmp nat_cmp_total q t b (without_txn t es) ∙ ap (λ x. cond (eq_by_cmp nat_cmp q t) (Some b) x) (find-rest q)
      ∙ over_rest b q (eq_by_cmp nat_cmp q t) (q == t) refl refl ∙ sym (find-put nat_cmp nat_cmp_total q t b es))

  -- Without an entry, the list is in order.
  pub in_order-without : IsTrue (is_sorted nat_cmp (without_txn t es))
  in_order-without = of_t _ sorted-without

  -- With an entry put in, the list is in order.
  pub in_order-put : (a : V) → IsTrue (is_sorted nat_cmp (put nat_cmp t a es))
  in_order-put a = of_t _ (is_sorted-put nat_cmp nat_cmp_total t a es sorted)

-- Lists --

module _ {X V : Type 0} (number : X → ℕ) (value : X → V) where
  rest_others : (t : ℕ) (x : X) (xs : List X) (i : ℕ) → AreOthers number t (x ∷ xs) (suc i) → AreOthers number t xs i
  rest_others t x xs i h j d lt = h (suc j) d (omega arith)

  -- The list without the one at place i.
  pub left : (t : ℕ) (xs : List X) (i : ℕ) → i < length xs → AreOthers number t xs i → ((d : X) → number (get_or xs i d) ≡ t) → T (is_sorted nat_cmp (entries number value xs))
      → entries number value (take i xs ++ drop (suc i) xs) ≡ without_txn t (entries number value xs)
  left t [] i lt others here s = absurd (omega arith)
  left t (x ∷ xs) zero lt others here s =
      sym (ap (λ b. cond (not b) (entry number value x ∷ without_txn t (entries number value xs)) (without_txn t (entries number value xs))) (same (number x) t (here x))
      ∙ all_stay t (entries number value xs) (subst (λ k. T (below_all nat_cmp k (entries number value xs))) (here x) (first _ _ s)))
  left t (x ∷ xs) (suc i) lt others here s =
      ap (λ l. entry number value x ∷ l) (left t xs i (omega arith) (rest_others t x xs i others) here (second _ _ s))
      ∙ sym (ap (λ b. cond (not b) (entry number value x ∷ without_txn t (entries number value xs)) (without_txn t (entries number value xs))) (apart (number x) t (others 0 x (omega arith))))

  -- What stands at its place is what is found.
  pub found : (t : ℕ) (xs : List X) (i : ℕ) → i < length xs → AreOthers number t xs i → ((d : X) → number (get_or xs i d) ≡ t) → (d : X) → find nat_cmp t (entries number value xs) ≡ Some (value (get_or xs i d))
  found t [] i lt others here d = absurd (omega arith)
  found t (x ∷ xs) zero lt others here d = ap (λ b. cond b (Some (value x)) (find nat_cmp t (entries number value xs))) (keys_same (number x) t (here x))
  found t (x ∷ xs) (suc i) lt others here d =
      ap (λ b. cond b (Some (value x)) (find nat_cmp t (entries number value xs))) (keys_apart (number x) t (others 0 x (omega arith)))
      ∙ found t xs i (omega arith) (rest_others t x xs i others) here d

  -- A number that stands nowhere is not found.
  pub not_found : (t : ℕ) (xs : List X) → AreOthers number t xs (length xs) → find nat_cmp t (entries number value xs) ≡ None
  not_found t [] h = refl
  not_found t (x ∷ xs) h =
      ap (λ b. cond b (Some (value x)) (find nat_cmp t (entries number value xs))) (keys_apart (number x) t (h 0 x (omega arith)))
      ∙ not_found t xs (rest_others t x xs (length xs) h)

  -- Without a number that stands nowhere, the list is the same.
  pub all_left : (t : ℕ) (xs : List X) → AreOthers number t xs (length xs) → entries number value xs ≡ without_txn t (entries number value xs)
  all_left t [] h = refl
  all_left t (x ∷ xs) h =
      ap (λ l. entry number value x ∷ l) (all_left t xs (rest_others t x xs (length xs) h))
      ∙ sym (ap (λ b. cond (not b) (entry number value x ∷ without_txn t (entries number value xs)) (without_txn t (entries number value xs))) (apart (number x) t (h 0 x (omega arith))))

  others_by : (t : ℕ) (x : X) (xs : List X) (b : Bool) → eq_by_cmp nat_cmp t (number x) ≡ b → cond b (Some (value x)) (find nat_cmp t (entries number value xs)) ≡ None
      → (find nat_cmp t (entries number value xs) ≡ None → AreOthers number t xs (length xs)) → AreOthers number t (x ∷ xs) (suc (length xs))
  others_by t x xs true e q r = absurd (some_none (value x) q)
  others_by t x xs false e q r = at
    where
      at : (j : ℕ) (d : X) → j < suc (length xs) → number (get_or (x ∷ xs) j d) ≢ t
      at zero d lt = key_apart t (number x) e
      at (suc j) d lt = r q j d (omega arith)

  -- A number that isn't found stands nowhere.
  pub others_of : (t : ℕ) (xs : List X) → find nat_cmp t (entries number value xs) ≡ None → AreOthers number t xs (length xs)
  others_of t [] h = λ j d lt. absurd (omega arith)
  others_of t (x ∷ xs) h = others_by t x xs (eq_by_cmp nat_cmp t (number x)) refl h (others_of t xs)

  -- What is inserted at its place is put in.
  pub placed : (s : X) (xs : List X) (i : ℕ) → i ≤ length xs → ((j : ℕ) (d : X) → j < i → number (get_or xs j d) < number s) → ((d : X) → i < length xs → number s < number (get_or xs i d))
      → entries number value (insert xs i s) ≡ put nat_cmp (number s) (value s) (entries number value xs)
  placed s [] zero le below above = refl
  placed s [] (suc i) le below above = absurd (omega arith)
  placed s (x ∷ xs) zero le below above =
      sym (ap (λ o. by_order o (entry number value s ∷ entry number value x ∷ entries number value xs) ((number x, value s) ∷ entries number value xs) (entry number value x ∷ put nat_cmp (number s) (value s) (entries number value xs)))
      (cmp_less (number s) (number x) (above x (omega arith))))
  placed s (x ∷ xs) (suc i) le below above =
      ap (λ l. entry number value x ∷ l) (placed s xs i (omega arith) (λ j d lt. below (suc j) d (omega arith)) (λ d lt. above d (omega arith)))
      ∙ sym (ap (λ o. by_order o (entry number value s ∷ entry number value x ∷ entries number value xs) ((number x, value s) ∷ entries number value xs) (entry number value x ∷ put nat_cmp (number s) (value s) (entries number value xs)))
      (cmp_greater (number s) (number x) (below 0 x (omega arith))))

  -- There are as many entries as things.
  pub length_entries : (xs : List X) → length (entries number value xs) ≡ length xs
  length_entries [] = refl
  length_entries (x ∷ xs) = ap suc (length_entries xs)

  -- A number that has a place is found.
  pub is_found : (t : ℕ) (xs : List X) (i : ℕ) → i < length xs → AreOthers number t xs i → ((d : X) → number (get_or xs i d) ≡ t) → is_some (find nat_cmp t (entries number value xs)) ≡ true
  is_found t [] i lt others here = absurd (omega arith)
  is_found t (x ∷ xs) i lt others here = ap is_some (found t (x ∷ xs) i lt others here x)

-- A choice by an answer that is `Ok` is the first one.
pub if_ok : {A B X : Type 0} (r : Result A B) (xs a b : X) → IsOk r → xs ≡ cond (is_ok r) a b → xs ≡ a
if_ok r xs a b h e = e ∙ ap (λ c. cond c a b) h

-- What an answer that is `Ok` tells.
pub on_ok : {A B X : Type 0} (r : Result A B) → OnOk r X → IsOk r → X
on_ok (Ok x) told h = told
on_ok (Err e) told h = absurd (subst T (sym h) tt)
