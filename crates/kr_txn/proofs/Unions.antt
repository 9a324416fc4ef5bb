-- Two rising lists of numbers as one: which numbers it has, one more of them, and a merge from the back.
use Rattle.std.specs.Prelude.{◌==◌, ◌&&◌}
use Rattle.std.specs.List.{list_any}
use Rattle.std.specs.List.Sorted.{IsStrictlyIncreasing}
use Rattle.std.proofs.Common.{◌≡◌, ◌≢◌, ℕ, suc, ◌+◌, ◌-◌, ◌<◌, ◌≤◌, length, get_or, take, drop, set, Bool, true, false, List, [], ◌∷◌, ◌++◌, ◌||◌, sym, ◌∙◌, ap, refl, subst, arith}
use Rattle.std.proofs.lemmas.Bool.Decides.{nat_tests}
use Rattle.std.proofs.lemmas.List.{take_more, take_all, drop_all, append-nil, take-set-le, drop-set, length-drop, length-take-le, get_or-take, get_or-drop}
use Rattle.std.specs.declared.cmp.Ordering.TheVariants.{Greater}
use Rattle.std.specs.Ordering.{nat_cmp}
use Rattle.std.specs.FinMap.Entries.{by_order}
use Rattle.kr_model.specs.Locks.{add_once}
use Rattle.kr_model.proofs.Actives.{any_add_once}
use Rattle.kr_model.proofs.Numbers.{Above, Rising, AreBelow, add_once_end, add_once_insert, increasing_add}
use Rattle.kr_model.proofs.RisingNumbers.{has, same_rising}
use Rattle.kr_txn.specs.EndedNumbers.{union, AreApart, AreEnded}
use Rattle.kr_model.proofs.Bisection.{rise_between}
use Rattle.kr_txn.proofs.EndedLaws.{any_at}

or_assoc : (a b c : Bool) → (a || (b || c)) ≡ ((a || b) || c)
or_assoc true b c = refl
or_assoc false b c = refl

and_false : (a : Bool) → (a && false) ≡ false
and_false true = refl
and_false false = refl

-- Which numbers --

-- A test holds of one of both exactly where it holds of one of either.
pub any-union : (f : ℕ → Bool) (xs ys : List ℕ) → list_any f (union xs ys) ≡ (list_any f xs || list_any f ys)
any-union f [] ys = refl
any-union f (x ∷ xs) ys = any_add_once f x (union xs ys) ∙ ap (λ b. f x || b) (any-union f xs ys) ∙ or_assoc (f x) (list_any f xs) (list_any f ys)

-- They rise.
pub rises-union : (xs ys : List ℕ) → IsStrictlyIncreasing ys → IsStrictlyIncreasing (union xs ys)
rises-union [] ys up = up
rises-union (x ∷ xs) ys up = increasing_add x (union xs ys) (rises-union xs ys up)

below_first : (x y : ℕ) (ys : List ℕ) → x < y → Above y ys → Above x ys
below_first x y [] lt a = tt
below_first x y (z ∷ zs) lt a = let next : y < z = a.0 in (omega arith, below_first x y zs lt a.1)

rising_of : (xs : List ℕ) → IsStrictlyIncreasing xs → Rising xs
rising_of [] up = tt
rising_of (x ∷ []) up = (tt, tt)
rising_of (x ∷ y ∷ ys) up =
    let lt : x < y = up 0 (omega arith) in
    let rest = rising_of (y ∷ ys) (λ k le. subst (λ i. get_or (y ∷ ys) k 0 < get_or (x ∷ y ∷ ys) i 0) (next_place k) (up (suc k) (omega arith))) in
    ((lt, below_first x y ys lt rest.0), rest)
  where
    next_place : (k : ℕ) → suc k + 1 ≡ suc (k + 1)
    next_place k = omega arith

flipped : (u v : ℕ) → (u == v) ≡ (v == u)
flipped u v = grind (arith, nat_tests)

has_is : (xs : List ℕ) (u : ℕ) → has xs u ≡ list_any (λ v. v == u) xs
has_is [] u = refl
has_is (x ∷ xs) u = ap (λ b. b || has xs u) (flipped u x) ∙ ap (λ b. (x == u) || b) (has_is xs u)

-- Rising lists with the same numbers are one.
same_numbers : (xs ys : List ℕ) → IsStrictlyIncreasing xs → IsStrictlyIncreasing ys → ((u : ℕ) → list_any (λ v. v == u) xs ≡ list_any (λ v. v == u) ys) → xs ≡ ys
same_numbers xs ys a b h = same_rising xs ys (rising_of xs a) (rising_of ys b) (λ u. has_is xs u ∙ h u ∙ sym (has_is ys u))

tied : (t u : ℕ) → (t == u) ≡ true → t ≡ u
tied t u e = grind (arith, nat_tests)

-- One more --

-- A number that is there is put once.
pub add_once-there : (t : ℕ) (zs : List ℕ) → IsStrictlyIncreasing zs → list_any (λ v. v == t) zs ≡ true → zs ≡ add_once t zs
add_once-there t zs up there = same_numbers zs (add_once t zs) up (increasing_add t zs up) (λ u. sym (any_add_once (λ v. v == u) t zs ∙ by u (t == u) refl))
  where
    by : (u : ℕ) (b : Bool) → (t == u) ≡ b → (b || list_any (λ v. v == u) zs) ≡ list_any (λ v. v == u) zs
    by u true e = sym (subst (λ x. list_any (λ v. v == x) zs ≡ true) (tied t u e) there)
    by u false e = refl

-- A number that is put into the first list is put into both.
pub union-add : (t : ℕ) (xs ys : List ℕ) → IsStrictlyIncreasing ys → union (add_once t xs) ys ≡ add_once t (union xs ys)
union-add t xs ys up = same_numbers (union (add_once t xs) ys) (add_once t (union xs ys)) (rises-union (add_once t xs) ys up) (increasing_add t (union xs ys) (rises-union xs ys up)) alike
  where
    alike : (u : ℕ) → list_any (λ v. v == u) (union (add_once t xs) ys) ≡ list_any (λ v. v == u) (add_once t (union xs ys))
    alike u =
        let f : ℕ → Bool = λ v. v == u in
        any-union f (add_once t xs) ys ∙ ap (λ b. b || list_any f ys) (any_add_once f t xs) ∙ sym (or_assoc (f t) (list_any f xs) (list_any f ys))
        ∙ sym (any_add_once f t (union xs ys) ∙ ap (λ b. f t || b) (any-union f xs ys))

-- A number past all settled ones goes to their end, where there are no recent ones.
pub union-end : (t : ℕ) (xs ys : List ℕ) → xs ≡ [] → AreBelow t ys (length ys) → union xs (ys ++ t ∷ []) ≡ add_once t (union xs ys)
union-end t xs ys none below = subst (λ zs. union zs (ys ++ t ∷ []) ≡ add_once t (union zs ys)) (sym none) (sym (add_once_end t ys below))

missing_one : (a b : Bool) → (a || b) ≡ false → b ≡ false
missing_one true b e = absurd (cc)
missing_one false b e = e

-- With a number that is in neither put to the recent ones, the lists are as they have to be.
pub ended-add : (t : ℕ) (ys xs : List ℕ) → AreEnded ys xs → list_any (λ v. v == t) (union xs ys) ≡ false → AreEnded ys (add_once t xs)
ended-add t ys xs h out = record { settled_rise = h.settled_rise; recent_rise = increasing_add t xs h.recent_rise; apart = apart }
  where
    apart : AreApart ys (add_once t xs)
    apart u = ap (λ b. list_any (λ v. v == u) ys && b) (any_add_once (λ v. v == u) t xs) ∙ by (t == u) refl
      where
        missing : list_any (λ v. v == t) ys ≡ false
        missing = missing_one (list_any (λ v. v == t) xs) (list_any (λ v. v == t) ys) (sym (any-union (λ v. v == t) xs ys) ∙ out)

        by : (b : Bool) → (t == u) ≡ b → (list_any (λ v. v == u) ys && (b || list_any (λ v. v == u) xs)) ≡ false
        by true e = ap (λ b. b && true) (subst (λ x. list_any (λ v. v == x) ys ≡ false) (tied t u e) missing)
        by false e = h.apart u

-- Merged, with no recent number left, the lists are as they have to be.
pub ended-merged : (zs ys xs ws : List ℕ) → AreEnded ys xs → zs ≡ union xs ys → ws ≡ [] → AreEnded zs ws
ended-merged zs ys xs ws h e none = subst (λ l. AreEnded l ws) (sym e) (subst (AreEnded (union xs ys)) (sym none) (record {
  settled_rise = rises-union xs ys h.settled_rise;
  recent_rise = λ k lt. absurd (omega arith);
  apart = λ u. and_false (list_any (λ v. v == u) (union xs ys));
}))

-- A merge from the back --

-- Numbers that are apart differ at each place.
pub differ : (ys xs : List ℕ) → AreApart ys xs → (k m : ℕ) → k < length ys → m < length xs → get_or ys k 0 ≢ get_or xs m 0
differ ys xs h k m lk lm e = by (any_at ys (get_or xs m 0) k lk e) (any_at xs (get_or xs m 0) m lm refl) (h (get_or xs m 0))
  where
    by : {a b : Bool} → a ≡ true → b ≡ true → (a && b) ≡ false → ⊥
    by p q r = cc

union-push : (xs : List ℕ) (x : ℕ) (ys : List ℕ) → union (xs ++ x ∷ []) ys ≡ union xs (add_once x ys)
union-push [] x ys = refl
union-push (z ∷ xs) x ys = ap (add_once z) (union-push xs x ys)

-- The numbers that are left, and those that have their place: what is between is free.
abbrev pub placed : List ℕ → ℕ → ℕ → List ℕ
placed zs left more = take left zs ++ drop (left + more) zs

add_past : (t x : ℕ) (xs : List ℕ) → x < t → add_once t (x ∷ xs) ≡ x ∷ add_once t xs
add_past t x xs lt = ap (λ o. by_order o (t ∷ x ∷ xs) (x ∷ xs) (x ∷ add_once t xs)) (greater t x lt)
  where
    greater : (x y : ℕ) → y < x → nat_cmp x y ≡ Greater
    greater x y h = grind (arith, nat_tests)

-- A number goes between those below it and those above.
add_once-between : (t : ℕ) (xs ys : List ℕ) → AreBelow t xs (length xs) → (0 < length ys → t < get_or ys 0 0) → add_once t (xs ++ ys) ≡ xs ++ t ∷ ys
add_once-between t [] [] below above = refl
add_once-between t [] (y ∷ ys) below above = add_once_insert t (y ∷ ys) 0 (omega arith) (λ k lt. absurd (omega arith)) (above (omega arith))
add_once-between t (x ∷ xs) ys below above =
    add_past t x (xs ++ ys) (below 0 (omega arith)) ∙ ap (λ l. x ∷ l) (add_once-between t xs ys (λ k lt. below (suc k) (omega arith)) above)

-- With the last recent number put into the last free place, they are the same.
pub placed-taken : (xs zs : List ℕ) (left more j at r : ℕ) → more ≡ j + 1 → at + 1 ≡ left + more → left + more ≤ length zs → more ≤ length xs → r ≡ get_or xs j 0
    → ((k : ℕ) → k < left → get_or zs k 0 < r) → (left + more < length zs → r < get_or zs (left + more) 0) → union (take j xs) (placed (set zs at r) left j) ≡ union (take more xs) (placed zs left more)
placed-taken xs zs left more j at r m a within in_range e below above =
    let free : left + j ≡ at = omega arith in
    let front : take left (set zs at r) ≡ take left zs = take-set-le left zs at r (omega arith) in
    let rest : drop at (set zs at r) ≡ r ∷ drop (at + 1) zs = drop-set zs at r (omega arith) in
    let long : length (take left zs) ≡ left = length-take-le left zs (omega arith) in
    let under : AreBelow r (take left zs) (length (take left zs)) = λ k lt. let lt2 : k < left = omega (arith, lt, long) in let here : get_or (take left zs) k 0 ≡ get_or zs k 0 = get_or-take left zs k 0 lt2 in let low = below k lt2 in omega (arith, here, low) in
    let over : 0 < length (drop (left + more) zs) → r < get_or (drop (left + more) zs) 0 0 = λ some.
    let many : length (drop (left + more) zs) ≡ length zs - (left + more) = length-drop (left + more) zs in
    let here : get_or (drop (left + more) zs) 0 0 ≡ get_or zs (left + more + 0) 0 = get_or-drop (left + more) zs 0 0 in
    let same : left + more + 0 ≡ left + more = omega arith in
    let high : r < get_or zs (left + more) 0 = above (omega (arith, some, many)) in
    subst (λ x. r < x) (sym (here ∙ ap (λ k. get_or zs k 0) same)) high in
    let last : take (j + 1) xs ≡ take j xs ++ get_or xs j 0 ∷ [] = take_more xs j 0 (omega arith) in
    let put : placed (set zs at r) left j ≡ add_once r (placed zs left more) =
    ap (λ k. take left (set zs at r) ++ drop k (set zs at r)) free ∙ ap (λ p. p ++ drop at (set zs at r)) front ∙ ap (λ q. take left zs ++ q) rest
    ∙ ap (λ k. take left zs ++ r ∷ drop k zs) a ∙ sym (add_once-between r (take left zs) (drop (left + more) zs) under over) in
    ap (union (take j xs)) put ∙ sym (union-push (take j xs) r (placed zs left more))
    ∙ ap (λ y. union (take j xs ++ y ∷ []) (placed zs left more)) e
    ∙ ap (λ l. union l (placed zs left more)) (sym last) ∙ ap (λ k. union (take k xs) (placed zs left more)) (sym m)

-- Settled numbers of which the last one is no greater than a recent one are below it.
pub all_below : (ys xs zs : List ℕ) (left j r : ℕ) → AreEnded ys xs → left ≤ length ys → j < length xs → r ≡ get_or xs j 0 → ((k : ℕ) → k < left → get_or zs k 0 ≡ get_or ys k 0)
    → (0 < left → get_or zs (left - 1) 0 ≤ r) → (k : ℕ) → k < left → get_or zs k 0 < r
all_below ys xs zs left j r h within in_range e same last k lt =
    let here = same k lt in
    let there = same (left - 1) (omega arith) in
    let rise = rise_between ys h.settled_rise k (left - 1) (omega arith) (omega arith) in
    let le = last (omega arith) in
    let apart : get_or ys (left - 1) 0 ≢ get_or xs j 0 = differ ys xs h.apart (left - 1) j (omega arith) in_range in
    omega (arith, here, there, rise, le, apart, e)

-- A list that is written over a longer one, which it is as long as, is what is left.
pub written_over : (ps qs : List ℕ) (n : ℕ) → length ps ≡ length qs → n ≡ length qs → take n (ps ++ drop (length ps) qs) ≡ ps
written_over ps qs n same long =
    ap (λ l. take n (ps ++ l)) (drop_all (length ps) qs (omega arith)) ∙ ap (take n) (append-nil ps) ∙ take_all n ps (omega arith)
