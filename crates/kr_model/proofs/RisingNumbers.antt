-- Rising lists of numbers as sets: which numbers they have, and that these determine them.
use Rattle.std.specs.List.{list_any, filter}
use Rattle.std.proofs.Common.{◌≡◌, ℕ, ◌<◌, Bool, true, false, cond, List, [], ◌∷◌, ◌||◌, ◌&&◌, sym, ◌∙◌, ap, refl, arith, ◌⊎◌, inl, inr, unwrap_or, Some}
use Rattle.std.specs.Prelude.{◌==◌}
use mathlib.Core.Bool.{false≢true}
use Rattle.std.proofs.lemmas.Bool.Decides.{nat_tests}
use Rattle.std.specs.declared.cmp.Ordering.{Ordering}
use Rattle.std.specs.declared.cmp.Ordering.TheVariants.{Less, Equal, Greater}
use Rattle.std.specs.Ordering.{nat_cmp}
use Rattle.std.specs.FinMap.{find}
use Rattle.std.specs.FinMap.Entries.{by_order}
use Rattle.kr_model.specs.declared.Name.{Name}
use Rattle.kr_model.specs.Locks.{Locks, Holder, holder_cmp, own, add_once, lockers}
use Rattle.kr_model.proofs.Numbers.{Above, Rising, above_filter}
use Rattle.kr_model.proofs.Keep.{same, same_holder}

-- whether a list has a number
abbrev pub has : List ℕ → ℕ → Bool
has xs u = list_any (λ v. u == v) xs

same_or_not : (x y : ℕ) → (x ≡ y) ⊎ ((x == y) ≡ false)
same_or_not x y = grind (arith, nat_tests)

tied : (x : ℕ) → (x == x) ≡ true
tied x = grind (arith, nat_tests)

apart : (x y : ℕ) → x < y → (x == y) ≡ false
apart x y lt = grind (arith, nat_tests)

same_of : (x y : ℕ) → (x == y) ≡ true → x ≡ y
same_of x y e = grind (arith, nat_tests)

-- a number below all of a list isn't in it
pub has_above : (x : ℕ) (xs : List ℕ) → Above x xs → has xs x ≡ false
has_above x [] a = refl
has_above x (y ∷ ys) a = ap (λ b. b || has ys x) (apart x y a.0) ∙ has_above x ys a.1

has_first : (x : ℕ) (xs : List ℕ) → has (x ∷ xs) x ≡ true
has_first x xs = ap (λ b. b || has xs x) (tied x)

and_false : (b : Bool) → (b && false) ≡ false
and_false true = refl
and_false false = refl

-- a number of a filtered list
pub has-filter : (f : ℕ → Bool) (xs : List ℕ) (u : ℕ) → has (filter f xs) u ≡ (has xs u && f u)
has-filter f [] u = refl
has-filter f (x ∷ xs) u = split (has-filter f xs u) (same_or_not u x)
  where
    here : has (filter f xs) u ≡ (has xs u && f u) → (b : Bool) → f u ≡ b → has (cond b (u ∷ filter f xs) (filter f xs)) u ≡ b
    here more true e = has_first u (filter f xs)
    here more false e = more ∙ ap (λ b. has xs u && b) e ∙ and_false (has xs u)

    other : (b : Bool) → (u == x) ≡ false → has (cond b (x ∷ filter f xs) (filter f xs)) u ≡ has (filter f xs) u
    other true e = ap (λ b. b || has (filter f xs) u) e
    other false e = refl

    split : has (filter f xs) u ≡ (has xs u && f u) → (u ≡ x) ⊎ ((u == x) ≡ false) → has (filter f (x ∷ xs)) u ≡ (has (x ∷ xs) u && f u)
    split more (inl e) = rw (← e) (here more (f u) refl ∙ ap (λ b. b && f u) (sym (has_first u xs)))
    split more (inr e) = other (f x) e ∙ more ∙ ap (λ b. (b || has xs u) && f u) (sym e)

-- a filtered list rises
pub rising_filter : (f : ℕ → Bool) (xs : List ℕ) → Rising xs → Rising (filter f xs)
rising_filter f [] r = tt
rising_filter f (x ∷ xs) r = by (f x) (rising_filter f xs r.1)
  where
    by : (b : Bool) → Rising (filter f xs) → Rising (cond b (x ∷ filter f xs) (filter f xs))
    by true more = (above_filter f x xs r.0, more)
    by false more = more

no_number : (b : Bool) → b ≡ true → b ≡ false → ⊥
no_number b t f = false≢true (sym f ∙ t)

orders : (x y : ℕ) → (x ≡ y) ⊎ ((x < y) ⊎ (y < x))
orders x y = grind arith

above_lower : (x y : ℕ) (ys : List ℕ) → x < y → Above y ys → Above x ys
above_lower x y [] lt a = tt
above_lower x y (z ∷ zs) lt a = let next : y < z = a.0 in (omega arith, above_lower x y zs lt a.1)

lower_missing : (x y : ℕ) (ys : List ℕ) → x < y → Above y ys → has (y ∷ ys) x ≡ false
lower_missing x y ys lt a = ap (λ b. b || has ys x) (apart x y lt) ∙ has_above x ys (above_lower x y ys lt a)

-- rising lists with the same numbers are one
pub same_rising : (xs ys : List ℕ) → Rising xs → Rising ys → ((u : ℕ) → has xs u ≡ has ys u) → xs ≡ ys
same_rising [] [] r s h = refl
same_rising [] (y ∷ ys) r s h = absurd (no_number (has (y ∷ ys) y) (has_first y ys) (sym (h y)))
same_rising (x ∷ xs) [] r s h = absurd (no_number (has (x ∷ xs) x) (has_first x xs) (h x))
same_rising (x ∷ xs) (y ∷ ys) r s h = split (λ tail. same_rising xs ys r.1 s.1 tail) (orders x y)
  where
    rest : x ≡ y → (u : ℕ) → has xs u ≡ has ys u
    rest e u = by (same_or_not u x)
      where
        by : (u ≡ x) ⊎ ((u == x) ≡ false) → has xs u ≡ has ys u
        by (inl i) = rw i (has_above x xs r.0 ∙ sym (rw e (has_above y ys s.0)))
        by (inr n) = let m : (u == y) ≡ false = rw (← e) n in ap (λ b. b || has xs u) (sym n) ∙ h u ∙ ap (λ b. b || has ys u) m

    split : (((u : ℕ) → has xs u ≡ has ys u) → xs ≡ ys) → (x ≡ y) ⊎ ((x < y) ⊎ (y < x)) → x ∷ xs ≡ y ∷ ys
    split more (inl e) = ap (λ z. z ∷ xs) e ∙ ap (λ l. y ∷ l) (more (rest e))
    split more (inr (inl lt)) = absurd (no_number (has (x ∷ xs) x) (has_first x xs) (h x ∙ lower_missing x y ys lt s.0))
    split more (inr (inr gt)) = absurd (no_number (has (y ∷ ys) y) (has_first y ys) (sym (h y) ∙ lower_missing y x xs gt r.0))

has_added_by : (x y u : ℕ) (ys : List ℕ) (o : Ordering) → nat_cmp x y ≡ o → has (add_once x ys) x ≡ true → has (by_order o (x ∷ y ∷ ys) (y ∷ ys) (y ∷ add_once x ys)) x ≡ true
has_added_by x y u ys Less e h = has_first x (y ∷ ys)
has_added_by x y u ys Equal e h = ap (λ b. b || has ys x) (tie x y e)
  where
    tie : (x y : ℕ) → nat_cmp x y ≡ Equal → (x == y) ≡ true
    tie x y e = grind (arith, nat_tests)
has_added_by x y u ys Greater e h = ap (λ b. (x == y) || b) h ∙ or_true (x == y)
  where
    or_true : (b : Bool) → (b || true) ≡ true
    or_true true = refl
    or_true false = refl

-- the number put in is there
pub has-add_once : (x : ℕ) (ys : List ℕ) → has (add_once x ys) x ≡ true
has-add_once x [] = has_first x []
has-add_once x (y ∷ ys) = has_added_by x y x ys (nat_cmp x y) refl (has-add_once x ys)

or_right : (a b : Bool) → b ≡ true → (a || b) ≡ true
or_right true b e = refl
or_right false b e = e

or_split : (a b : Bool) → (a || b) ≡ true → (a ≡ true) ⊎ (b ≡ true)
or_split true b e = inl refl
or_split false b e = inr e

or_left : (a b : Bool) → a ≡ true → (a || b) ≡ true
or_left true b e = refl
or_left false b e = absurd (false≢true e)

-- and all that were there are still
pub has_kept : (x u : ℕ) (ys : List ℕ) → has ys u ≡ true → has (add_once x ys) u ≡ true
has_kept x u [] h = absurd (false≢true h)
has_kept x u (y ∷ ys) h = by (λ e. has_kept x u ys e) (nat_cmp x y)
  where
    by : (has ys u ≡ true → has (add_once x ys) u ≡ true) → (o : Ordering) → has (by_order o (x ∷ y ∷ ys) (y ∷ ys) (y ∷ add_once x ys)) u ≡ true
    by more Less = or_right (u == x) (has (y ∷ ys) u) h
    by more Equal = h
    by more Greater = elim (or_split (u == y) (has ys u) h) [ inl e ↦ or_left (u == y) (has (add_once x ys) u) e | inr e ↦ or_right (u == y) (has (add_once x ys) u) (more e) ]

-- who holds a mode on a name is among the holders
pub has-lockers : (h : Locks) (u : ℕ) (n : Name) → (own h u n ≡ 0 → ⊥) → has (lockers h) u ≡ true
has-lockers [] u n some = absurd (some refl)
has-lockers (l ∷ ls) u n some = by (λ more. has-lockers ls u n more) (same (n, u) l.0) refl
  where
    by : ((own ls u n ≡ 0 → ⊥) → has (lockers ls) u ≡ true) → (b : Bool) → same (n, u) l.0 ≡ b → has (lockers (l ∷ ls)) u ≡ true
    by more true e = let here : u ≡ l.0.1 = ap (λ (k : Holder). k.1) (same_holder (n, u) l.0 e) in rw here (has-add_once l.0.1 (lockers ls))
    by more false e = has_kept l.0.1 u (lockers ls) (more (λ none. some (ap (λ b. unwrap_or (cond b (Some l.1) (find holder_cmp (n, u) ls)) 0) e ∙ none)))
