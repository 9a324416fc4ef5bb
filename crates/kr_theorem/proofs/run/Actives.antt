-- The list of the active transactions: what stands in it, and that what stands in it is found.
use Rattle.std.specs.Prelude.{◌≡◌, ℕ, ◌<◌, Bool, true, false, ◌||◌, cond, List, [], ◌∷◌, Some, filter, refl, ◌⊎◌}
use Rattle.std.specs.Ordering.{nat_cmp, eq_by_cmp, is_lt}
use Rattle.std.specs.declared.cmp.Ordering.{Ordering}
use Rattle.std.specs.declared.cmp.Ordering.TheVariants.{Less, Equal, Greater}
use Rattle.std.specs.FinMap.{find, put, is_sorted}
use Rattle.std.specs.FinMap.Entries.{by_order, below_all}
use Rattle.std.proofs.lemmas.Bool.Decides.{nat_tests}
use Rattle.std.proofs.lemmas.Map.Lookups.{exact_unsigned}
use Rattle.std.proofs.Common.{sym, ◌∙◌, ap, subst, arith, inl, inr}
use Rattle.kr_model.proofs.Guarantees.{In}
use Rattle.kr_model.proofs.MapLaws.{keys_apart, key_tie}
use Rattle.kr_theorem.proofs.gaps.Gaps.{and_one, and_two}

pub true_not_false : true ≡ false → ⊥
true_not_false e = cc

-- Disjunctions of tests.
pub or_left : (a b : Bool) → (a || b) ≡ false → a ≡ false
or_left true b h = absurd (cc)
or_left false b h = refl

pub or_right : (a b : Bool) → (a || b) ≡ false → b ≡ false
or_right true b h = absurd (cc)
or_right false b h = h

pub or_false : (a b : Bool) → a ≡ false → b ≡ false → (a || b) ≡ false
or_false true b e f = e
or_false false b e f = f

-- One transaction is put, or goes --

-- What stands in the list after it is the one that was put, or stood there before.
pub in_put : {X : Type 0} (k : ℕ) (v : X) (es : List (ℕ × X)) (e : ℕ × X) → In e (put nat_cmp k v es) → ((k, v) ≡ e) ⊎ In e es
in_put k v [] e (inl s) = inl s
in_put k v [] e (inr i) = absurd i
in_put k v (f ∷ es) e i = by_cases (nat_cmp k f.0) refl i (λ j. in_put k v es e j)
  where
    tail_of : (exact : k ≡ f.0) → (f.0, v) ≡ e → (k, v) ≡ e
    tail_of exact s = ap (λ x. (x, v)) exact ∙ s

    by_cases : (o : Ordering) → nat_cmp k f.0 ≡ o → In e (by_order o ((k, v) ∷ f ∷ es) ((f.0, v) ∷ es) (f ∷ put nat_cmp k v es)) → (In e (put nat_cmp k v es) → ((k, v) ≡ e) ⊎ In e es) → ((k, v) ≡ e) ⊎ (f ≡ e) ⊎ In e es
    by_cases Less p (inl s) r = inl s
    by_cases Less p (inr j) r = inr j
    by_cases Equal p (inl s) r = inl (tail_of (exact_unsigned k f.0 p) s)
    by_cases Equal p (inr j) r = inr (inr j)
    by_cases Greater p (inl s) r = inr (inl s)
    by_cases Greater p (inr j) r = elim (r j) [ inl s ↦ inl s | inr l ↦ inr (inr l) ]

pub in_filter : {A : Type 0} (f : A → Bool) (xs : List A) (x : A) → In x (filter f xs) → In x xs × (f x ≡ true)
in_filter f [] x i = absurd i
in_filter f (y ∷ xs) x i = by_cases (f y) refl i (λ j. in_filter f xs x j)
  where
    by_cases : (b : Bool) → f y ≡ b → In x (cond b (y ∷ filter f xs) (filter f xs)) → (In x (filter f xs) → In x xs × (f x ≡ true)) → ((y ≡ x) ⊎ In x xs) × (f x ≡ true)
    by_cases true e (inl s) r = (inl s, ap f (sym s) ∙ e)
    by_cases true e (inr j) r = let z = r j in (inr z.0, z.1)
    by_cases false e j r = let z = r j in (inr z.0, z.1)

-- In a list in order each entry is found --

below_it : {X : Type 0} (k : ℕ) (es : List (ℕ × X)) (e : ℕ × X) → below_all nat_cmp k es ≡ true → In e es → is_lt (nat_cmp k e.0) ≡ true
below_it k [] e h i = absurd i
below_it k (f ∷ es) e h (inl s) = subst (λ z. is_lt (nat_cmp k z.0) ≡ true) s (and_one (is_lt (nat_cmp k f.0)) (below_all nat_cmp k es) h)
below_it k (f ∷ es) e h (inr i) = below_it k es e (and_two (is_lt (nat_cmp k f.0)) (below_all nat_cmp k es) h) i

lt_apart : (a b : ℕ) → is_lt (nat_cmp a b) ≡ true → b ≡ a → ⊥
lt_apart a b h e = by_cases (nat_cmp a b) refl h
  where
    by_cases : (o : Ordering) → nat_cmp a b ≡ o → is_lt o ≡ true → ⊥
    by_cases Less is g = let lt : a < b = grind (arith, nat_tests, is) in omega (arith, lt, e)
    by_cases Equal is g = cc
    by_cases Greater is g = cc

pub sorted_finds : {X : Type 0} (k : ℕ) (v : X) (es : List (ℕ × X)) → is_sorted nat_cmp es ≡ true → In (k, v) es → find nat_cmp k es ≡ Some v
sorted_finds k v [] h i = absurd i
sorted_finds k v (f ∷ es) h (inl s) = ap (λ b. cond b (Some f.1) (find nat_cmp k es)) (ap (λ x. eq_by_cmp nat_cmp k x.0) s ∙ key_tie k) ∙ ap (λ x. Some x.1) s
sorted_finds k v (f ∷ es) h (inr i) =
    ap (λ b. cond b (Some f.1) (find nat_cmp k es)) (keys_apart k f.0 (lt_apart f.0 k (below_it f.0 es (k, v) (and_one (below_all nat_cmp f.0 es) (is_sorted nat_cmp es) h) i)))
    ∙ sorted_finds k v es (and_two (below_all nat_cmp f.0 es) (is_sorted nat_cmp es) h) i
