-- The lists of the active and of the ended transactions: who is among them after one is put or goes.
use Rattle.std.specs.Prelude.{◌≡◌, ℕ, ◌≤◌, Bool, true, false, not, ◌==◌, ◌||◌, cond, List, [], ◌∷◌, Some, None, filter, length, refl}
use Rattle.std.specs.List.{list_any}
use Rattle.std.specs.Ordering.{nat_cmp}
use Rattle.std.specs.declared.cmp.Ordering.{Ordering}
use Rattle.std.specs.declared.cmp.Ordering.TheVariants.{Less, Equal, Greater}
use Rattle.std.specs.Cmp.{nat_cmp_total}
use Rattle.std.specs.FinMap.{find, put}
use Rattle.std.specs.FinMap.Entries.{find-put, find-where_key, by_order}
use Rattle.std.proofs.lemmas.Bool.Decides.{nat_tests}
use Rattle.std.proofs.lemmas.Map.Lookups.{exact_unsigned}
use Rattle.std.proofs.Common.{sym, ◌∙◌, ap, arith}
use Rattle.kr_model.specs.Locks.{add_once}
use Rattle.kr_model.proofs.MapLaws.{keys_apart, key_tie}

-- A test is not both.
pub false_true : (b : Bool) → b ≡ false → b ≡ true → ⊥
false_true b e f = cc

-- tests on numbers
pub tied : (t : ℕ) → (t == t) ≡ true
tied t = grind (arith, nat_tests)

pub untied : (u t : ℕ) → (u ≡ t → ⊥) → (u == t) ≡ false
untied u t h = grind (arith, nat_tests)

-- The ended --

or_same : (b c : Bool) → (b || c) ≡ (b || (b || c))
or_same true c = refl
or_same false c = refl

or_swap : (a b c : Bool) → (a || (b || c)) ≡ (b || (a || c))
or_swap true true c = refl
or_swap true false c = refl
or_swap false true c = refl
or_swap false false c = refl

any_put : (f : ℕ → Bool) (x y : ℕ) (ys : List ℕ) (o : Ordering) → nat_cmp x y ≡ o → list_any f (add_once x ys) ≡ (f x || list_any f ys)
    → list_any f (by_order o (x ∷ y ∷ ys) (y ∷ ys) (y ∷ add_once x ys)) ≡ (f x || (f y || list_any f ys))
any_put f x y ys Less e h = refl
any_put f x y ys Equal e h = or_same (f y) (list_any f ys) ∙ ap (λ z. f z || (f y || list_any f ys)) (sym (exact_unsigned x y e))
any_put f x y ys Greater e h = ap (λ b. f y || b) h ∙ or_swap (f y) (f x) (list_any f ys)

-- a test holds of one of the numbers with x among them exactly where it holds of x or of one of the numbers
pub any_add_once : (f : ℕ → Bool) (x : ℕ) (xs : List ℕ) → list_any f (add_once x xs) ≡ (f x || list_any f xs)
any_add_once f x [] = refl
any_add_once f x (y ∷ ys) = any_put f x y ys (nat_cmp x y) refl (any_add_once f x ys)

pub or_true : (a b : Bool) → b ≡ true → (a || b) ≡ true
or_true true b h = refl
or_true false b h = h

-- The active --

-- the one that is put is found, and every other is found as before
pub find_put_same : {X : Type 0} (es : List (ℕ × X)) (t : ℕ) (v : X) → find nat_cmp t (put nat_cmp t v es) ≡ Some v
find_put_same es t v = find-put nat_cmp nat_cmp_total t t v es ∙ ap (λ b. cond b (Some v) (find nat_cmp t es)) (key_tie t)

pub find_put_other : {X : Type 0} (es : List (ℕ × X)) (t u : ℕ) (v : X) → (u ≡ t → ⊥) → find nat_cmp u (put nat_cmp t v es) ≡ find nat_cmp u es
find_put_other es t u v d = find-put nat_cmp nat_cmp_total u t v es ∙ ap (λ b. cond b (Some v) (find nat_cmp u es)) (keys_apart u t d)

-- where one goes, it isn't found, and every other is found as before
pub find_filter : {X : Type 0} (es : List (ℕ × X)) (t u : ℕ) → find nat_cmp u (filter (λ e. not (e.0 == t)) es) ≡ cond (not (u == t)) (find nat_cmp u es) None
find_filter es t u = find-where_key nat_cmp (λ x. not (x == t)) u (λ y e. ap (λ z. not (z == t)) (sym (exact_unsigned u y e))) es

pub find_filter_other : {X : Type 0} (es : List (ℕ × X)) (t u : ℕ) → (u ≡ t → ⊥) → find nat_cmp u (filter (λ e. not (e.0 == t)) es) ≡ find nat_cmp u es
find_filter_other es t u d = find_filter es t u ∙ ap (λ b. cond (not b) (find nat_cmp u es) None) (untied u t d)

-- a filter leaves no more
pub length_filter : {A : Type 0} (f : A → Bool) (xs : List A) → length (filter f xs) ≤ length xs
length_filter f [] = omega arith
length_filter f (x ∷ xs) = by (f x) (length_filter f xs)
  where
    by : (b : Bool) → length (filter f xs) ≤ length xs → length (cond b (x ∷ filter f xs) (filter f xs)) ≤ length (x ∷ xs)
    by true h = omega arith
    by false h = omega arith
