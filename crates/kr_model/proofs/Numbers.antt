-- Rising lists of numbers: a number put in, two lists joined, and what conflicts with several requests.
use Rattle.std.specs.List.{insert, list_any, filter}
use Rattle.std.specs.List.Sorted.{IsStrictlyIncreasing}
use Rattle.std.proofs.lemmas.Bool.Decides.{nat_tests}
use Rattle.std.proofs.Common.{◌≡◌, ℕ, zero, suc, ◌<◌, ◌+◌, length, get_or, Bool, true, false, cond, List, [], ◌∷◌, ◌++◌, ◌||◌, sym, ◌∙◌, ap, subst, refl, arith, ◌↔◌}
use Rattle.std.specs.declared.cmp.Ordering.{Ordering}
use Rattle.std.specs.declared.cmp.Ordering.TheVariants.{Less, Equal, Greater}
use Rattle.std.specs.Ordering.{nat_cmp}
use Rattle.std.specs.FinMap.Entries.{by_order}
use Rattle.kr_model.specs.Protocol.{Protocol}
use Rattle.kr_model.specs.Locks.{Locks, Request, add_once, lockers, blockers, conflicts}

less : (x y : ℕ) → x < y → nat_cmp x y ≡ Less
less x y h = grind (arith, nat_tests)

greater : (x y : ℕ) → y < x → nat_cmp x y ≡ Greater
greater x y h = grind (arith, nat_tests)

equal : (x y : ℕ) → x ≡ y → nat_cmp x y ≡ Equal
equal x y h = grind (arith, nat_tests)

is_less : (x y : ℕ) → nat_cmp x y ≡ Less → x < y
is_less x y h = grind (arith, nat_tests)

is_greater : (x y : ℕ) → nat_cmp x y ≡ Greater → y < x
is_greater x y h = grind (arith, nat_tests)

at_order : (x y : ℕ) (ys : List ℕ) (o : Ordering) → nat_cmp x y ≡ o → add_once x (y ∷ ys) ≡ by_order o (x ∷ y ∷ ys) (y ∷ ys) (y ∷ add_once x ys)
at_order x y ys o h = ap (λ r. by_order r (x ∷ y ∷ ys) (y ∷ ys) (y ∷ add_once x ys)) h

add_past : (x y : ℕ) (ys : List ℕ) → y < x → add_once x (y ∷ ys) ≡ y ∷ add_once x ys
add_past x y ys lt = at_order x y ys Greater (greater x y lt)

add_same : (x : ℕ) (ys : List ℕ) → add_once x (x ∷ ys) ≡ x ∷ ys
add_same x ys = at_order x x ys Equal (equal x x refl)

-- every number before place i is below t
abbrev pub AreBelow : ℕ → List ℕ → ℕ → Type 0
AreBelow t xs i = (k : ℕ) → k < i → get_or xs k 0 < t

below_rest : (t x : ℕ) (xs : List ℕ) (i : ℕ) → AreBelow t (x ∷ xs) (suc i) → AreBelow t xs i
below_rest t x xs i below k lt = below (suc k) (omega arith)

-- it goes before the first number above it
pub add_once_insert : (t : ℕ) (xs : List ℕ) (i : ℕ) → i < length xs → AreBelow t xs i → t < get_or xs i 0 → add_once t xs ≡ insert xs i t
add_once_insert t [] i in_range below lt = absurd (omega arith)
add_once_insert t (x ∷ xs) zero in_range below lt = at_order t x xs Less (less t x lt)
add_once_insert t (x ∷ xs) (suc i) in_range below lt =
    add_past t x xs (below 0 (omega arith)) ∙ ap (λ l. x ∷ l) (add_once_insert t xs i (omega arith) (below_rest t x xs i below) lt)

-- nothing changes where it is there
pub add_once_there : (t : ℕ) (xs : List ℕ) (i : ℕ) → i < length xs → AreBelow t xs i → t ≡ get_or xs i 0 → add_once t xs ≡ xs
add_once_there t [] i in_range below same = absurd (omega arith)
add_once_there t (x ∷ xs) zero in_range below same = at_order t x xs Equal (equal t x same)
add_once_there t (x ∷ xs) (suc i) in_range below same =
    add_past t x xs (below 0 (omega arith)) ∙ ap (λ l. x ∷ l) (add_once_there t xs i (omega arith) (below_rest t x xs i below) same)

-- it goes to the end where all are below it
pub add_once_end : (t : ℕ) (xs : List ℕ) → AreBelow t xs (length xs) → add_once t xs ≡ xs ++ t ∷ []
add_once_end t [] below = refl
add_once_end t (x ∷ xs) below = add_past t x xs (below 0 (omega arith)) ∙ ap (λ l. x ∷ l) (add_once_end t xs (below_rest t x xs (length xs) below))

-- every number of the list is above x
abbrev pub Above : ℕ → List ℕ → Type 0
Above x [] = Unit {0}
Above x (y ∷ ys) = (x < y) × Above x ys

-- each number is below all after it
abbrev pub Rising : List ℕ → Type 0
Rising [] = Unit {0}
Rising (x ∷ xs) = Above x xs × Rising xs

module _ where
  above_trans : (x y : ℕ) (ys : List ℕ) → x < y → Above y ys → Above x ys
  above_trans x y [] lt a = tt
  above_trans x y (z ∷ zs) lt a = let next : y < z = a.0 in (omega arith, above_trans x y zs lt a.1)

  above_add_by : (z x y : ℕ) (ys : List ℕ) (o : Ordering) → z < x → z < y → Above z ys → Above z (add_once x ys) → Above z (by_order o (x ∷ y ∷ ys) (y ∷ ys) (y ∷ add_once x ys))
  above_add_by z x y ys Less lx ly a r = (lx, (ly, a))
  above_add_by z x y ys Equal lx ly a r = (ly, a)
  above_add_by z x y ys Greater lx ly a r = (ly, r)

  above_add : (z x : ℕ) (ys : List ℕ) → z < x → Above z ys → Above z (add_once x ys)
  above_add z x [] lt a = (lt, tt)
  above_add z x (y ∷ ys) lt a = above_add_by z x y ys (nat_cmp x y) lt a.0 a.1 (above_add z x ys lt a.1)

  add_front : (x : ℕ) (ys : List ℕ) → Above x ys → add_once x ys ≡ x ∷ ys
  add_front x [] a = refl
  add_front x (y ∷ ys) a = at_order x y ys Less (less x y a.0)

  -- what is left after a filter is above x still
  pub above_filter : (f : ℕ → Bool) (x : ℕ) (xs : List ℕ) → Above x xs → Above x (filter f xs)
  above_filter f x [] a = tt
  above_filter f x (y ∷ ys) a = by (f y) (above_filter f x ys a.1)
    where
      by : (b : Bool) → Above x (filter f ys) → Above x (cond b (y ∷ filter f ys) (filter f ys))
      by true r = (a.0, r)
      by false r = r

module _ where
  rising_add_by : (x y : ℕ) (ys : List ℕ) (o : Ordering) → nat_cmp x y ≡ o → Above y ys → Rising ys → Rising (add_once x ys) → Rising (by_order o (x ∷ y ∷ ys) (y ∷ ys) (y ∷ add_once x ys))
  rising_add_by x y ys Less e a r more = (front, (a, r))
    where
      front : Above x (y ∷ ys)
      front = (is_less x y e, above_trans x y ys (is_less x y e) a)
  rising_add_by x y ys Equal e a r more = (a, r)
  rising_add_by x y ys Greater e a r more = (above_add y x ys (is_greater x y e) a, more)

  -- with one more put in its place they rise still
  pub rising_add : (x : ℕ) (ys : List ℕ) → Rising ys → Rising (add_once x ys)
  rising_add x [] r = (none, tt)
    where
      none : Above x []
      none = tt
  rising_add x (y ∷ ys) r = rising_add_by x y ys (nat_cmp x y) refl r.0 r.1 (rising_add x ys r.1)

  -- the transactions that hold a lock rise
  pub lockers_rise : (h : Locks) → Rising (lockers h)
  lockers_rise [] = tt
  lockers_rise (l ∷ ls) = rising_add l.0.1 (lockers ls) (lockers_rise ls)

next_place : (k : ℕ) → suc k + 1 ≡ suc (k + 1)
next_place k = omega arith

-- numbers each of which is below the next are each below all after it, and the other way round
rising_of : (xs : List ℕ) → IsStrictlyIncreasing xs → Rising xs
rising_of [] up = tt
rising_of (x ∷ []) up = (tt, tt)
rising_of (x ∷ y ∷ ys) up =
    let lt : x < y = up 0 (omega arith) in
    let rest = rising_of (y ∷ ys) (λ k le. subst (λ i. get_or (y ∷ ys) k 0 < get_or (x ∷ y ∷ ys) i 0) (next_place k) (up (suc k) (omega arith))) in
    ((lt, above_trans x y ys lt rest.0), rest)

increasing_of : (xs : List ℕ) → Rising xs → IsStrictlyIncreasing xs
increasing_of [] r k le = absurd (omega arith)
increasing_of (x ∷ []) r k le = absurd (omega arith)
increasing_of (x ∷ y ∷ ys) r zero le = r.0.0
increasing_of (x ∷ y ∷ ys) r (suc k) le = subst (λ i. get_or (y ∷ ys) k 0 < get_or (x ∷ y ∷ ys) i 0) (sym (next_place k)) (increasing_of (y ∷ ys) r.1 k (omega arith))

-- so with one more put in its place each is below the next
pub increasing_add : (x : ℕ) (xs : List ℕ) → IsStrictlyIncreasing xs → IsStrictlyIncreasing (add_once x xs)
increasing_add x xs up = increasing_of (add_once x xs) (rising_add x xs (rising_of xs up))

-- the numbers of the first list put into the second, the last one first
abbrev pub merged : List ℕ → List ℕ → List ℕ
merged [] ys = ys
merged (x ∷ xs) ys = add_once x (merged xs ys)

above_merged : (z : ℕ) (xs ys : List ℕ) → Above z xs → Above z ys → Above z (merged xs ys)
above_merged z [] ys a b = b
above_merged z (x ∷ xs) ys a b = above_add z x (merged xs ys) a.0 (above_merged z xs ys a.1 b)

merged_front : (x : ℕ) (xs ys : List ℕ) → Above x xs → merged xs (x ∷ ys) ≡ x ∷ merged xs ys
merged_front x [] ys a = refl
merged_front x (z ∷ zs) ys a = ap (add_once z) (merged_front x zs ys a.1) ∙ add_past z x (merged zs ys) a.0

merged_step : (f g : ℕ → Bool) (x : ℕ) (xs : List ℕ) (a b : Bool) → Above x xs → merged (filter f xs) (filter g xs) ≡ filter (λ u. f u || g u) xs
    → merged (cond a (x ∷ filter f xs) (filter f xs)) (cond b (x ∷ filter g xs) (filter g xs)) ≡ cond (a || b) (x ∷ filter (λ u. f u || g u) xs) (filter (λ u. f u || g u) xs)
merged_step f g x xs true true above h =
    ap (add_once x) (merged_front x (filter f xs) (filter g xs) (above_filter f x xs above)) ∙ add_same x (merged (filter f xs) (filter g xs)) ∙ ap (λ l. x ∷ l) h
merged_step f g x xs true false above h = add_front x (merged (filter f xs) (filter g xs)) (above_merged x (filter f xs) (filter g xs) (above_filter f x xs above) (above_filter g x xs above)) ∙ ap (λ l. x ∷ l) h
merged_step f g x xs false true above h = merged_front x (filter f xs) (filter g xs) (above_filter f x xs above) ∙ ap (λ l. x ∷ l) h
merged_step f g x xs false false above h = h

merged_filters : (f g : ℕ → Bool) (xs : List ℕ) → Rising xs → merged (filter f xs) (filter g xs) ≡ filter (λ u. f u || g u) xs
merged_filters f g [] r = refl
merged_filters f g (x ∷ xs) r = merged_step f g x xs (f x) (g x) r.0 (merged_filters f g xs r.1)

filter_alike : (f g : ℕ → Bool) (xs : List ℕ) → ((u : ℕ) → f u ≡ g u) → filter f xs ≡ filter g xs
filter_alike f g [] h = refl
filter_alike f g (x ∷ xs) h = ap (λ b. cond b (x ∷ filter f xs) (filter f xs)) (h x) ∙ ap (λ l. cond (g x) (x ∷ l) l) (filter_alike f g xs h)

or_assoc : (a b c : Bool) → (a || (b || c)) ≡ ((a || b) || c)
or_assoc true b c = refl
or_assoc false b c = refl

any_append : (f : Request → Bool) (xs ys : List Request) → list_any f (xs ++ ys) ≡ (list_any f xs || list_any f ys)
any_append f [] ys = refl
any_append f (x ∷ xs) ys = ap (λ b. f x || b) (any_append f xs ys) ∙ or_assoc (f x) (list_any f xs) (list_any f ys)

-- who conflicts with one of several requests conflict with one of the first or one of the rest
pub blockers-append : (p : Protocol) (h : Locks) (t : ℕ) (xs ys : List Request) → blockers p h t (xs ++ ys) ≡ merged (blockers p h t xs) (blockers p h t ys)
blockers-append p h t xs ys =
    filter_alike (λ u. list_any (λ r. conflicts p h t r u) (xs ++ ys)) (λ u. list_any (λ r. conflicts p h t r u) xs || list_any (λ r. conflicts p h t r u) ys) (lockers h) (λ u. any_append (λ r. conflicts p h t r u) xs ys)
    ∙ sym (merged_filters (λ u. list_any (λ r. conflicts p h t r u) xs) (λ u. list_any (λ r. conflicts p h t r u) ys) (lockers h) (lockers_rise h))

add_once_some : (t : ℕ) (xs : List ℕ) → add_once t xs ≡ [] → ⊥
add_once_some t [] h = cc
add_once_some t (x ∷ xs) h = some (nat_cmp t x) h
  where
    some : (o : Ordering) → by_order o (t ∷ x ∷ xs) (x ∷ xs) (x ∷ add_once t xs) ≡ [] → ⊥
    some Less e = cc
    some Equal e = cc
    some Greater e = cc

merged_nothing : (xs ys : List ℕ) → merged xs ys ≡ [] → (xs ≡ []) × (ys ≡ [])
merged_nothing [] ys h = (refl, h)
merged_nothing (x ∷ xs) ys h = absurd (add_once_some x (merged xs ys) h)

filter_none : (xs : List ℕ) → filter (λ u. false) xs ≡ []
filter_none [] = refl
filter_none (x ∷ xs) = filter_none xs

-- no request, no blockers
pub blockers_nothing : (p : Protocol) (h : Locks) (t : ℕ) → blockers p h t [] ≡ []
blockers_nothing p h t = filter_none (lockers h)

-- two lists of requests have no blockers together exactly where neither has any
pub blockers_none : (p : Protocol) (h : Locks) (t : ℕ) (xs ys : List Request) → (blockers p h t (xs ++ ys) ≡ []) ↔ ((blockers p h t xs ≡ []) × (blockers p h t ys ≡ []))
blockers_none p h t xs ys = (
  λ e. merged_nothing _ _ (sym (blockers-append p h t xs ys) ∙ e),
  λ e. blockers-append p h t xs ys ∙ ap (λ l. merged l (blockers p h t ys)) e.0 ∙ e.1,
)
