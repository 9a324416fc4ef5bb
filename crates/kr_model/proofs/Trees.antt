-- The entries of a map in a tree: what its calls do to them, in the words of maps in order.
use Rattle.std.specs.Prelude.{◌≡◌, ℕ, Bool, true, false, not, ◌&&◌, ◌==◌, cond, List, [], ◌∷◌, Option, Some, None, refl, T, IsTrue, IsSome}
use Rattle.std.specs.Ordering.{nat_cmp, is_eq, is_lt, match_ordering, eq_by_cmp}
use Rattle.std.specs.declared.cmp.Ordering.{Ordering}
use Rattle.std.specs.declared.cmp.Ordering.TheVariants.{Less, Equal, Greater}
use Rattle.std.specs.FinMap.{find, put, is_sorted}
use Rattle.std.specs.FinMap.Entries.{below_all, where_key, by_order, same_entries}
use Rattle.std.specs.BTreeMap.{insert_entry, is_at}
use Rattle.std.specs.Map.{lookup, remove_entry, set_value, update, update_all, keys_of}
use Rattle.std.specs.Cmp.{nat_cmp_total}
use Rattle.std.specs.List.{AllByRecursion}
use Rattle.std.specs.List.Sorted.{IsStrictlySortedBy}
use Rattle.std.specs.BTreeMap as tree
use Rattle.std.proofs.lemmas.Map.Lookups.{exact_unsigned}
use Rattle.std.proofs.lemmas.Bool.Decides.{nat_tests}
use Rattle.std.proofs.Common.{sym, ◌∙◌, ap, subst, arith}

-- Tests that hold --

pub t_of : (b : Bool) → IsTrue b → T b
t_of b h = subst (λ (c : Bool). T c) (sym h) tt

pub of_t : (b : Bool) → T b → IsTrue b
of_t true h = refl
of_t false h = absurd h

-- both of two
pub both : (a b : Bool) → T a → T b → T (a && b)
both true b p q = q
both false b p q = p

-- the first of two that both hold
pub first : (a b : Bool) → T (a && b) → T a
first true b p = tt
first false b p = p

-- the second of two that both hold
pub second : (a b : Bool) → T (a && b) → T b
second true b p = p
second false b p = absurd p

lt_of : (o : Ordering) → o ≡ Less → T (is_lt o)
lt_of Less e = tt
lt_of Equal e = absurd (cc)
lt_of Greater e = absurd (cc)

-- Keys in any order --

module _ {K X : Type 0} (R : K → K → Ordering) where
  -- what a tree finds is what stands at the key
  pub lookup_is_find : (es : List (K × X)) (k : K) → lookup (is_at (R k)) es ≡ find R k es
  lookup_is_find [] k = refl
  lookup_is_find (e ∷ es) k = ap (cond (is_eq (R k e.0)) (Some e.1)) (lookup_is_find es k)

  -- an entry that a tree takes in is put
  pub inserted_is_put : (es : List (K × X)) (k : K) (x : X) → insert_entry R es k x ≡ put R k x es
  inserted_is_put [] k x = refl
  inserted_is_put (e ∷ es) k x = by (R k e.0) (inserted_is_put es k x)
    where
      by : (o : Ordering) → insert_entry R es k x ≡ put R k x es → match_ordering o ((k, x) ∷ e ∷ es) ((e.0, x) ∷ es) (e ∷ insert_entry R es k x) ≡ by_order o ((k, x) ∷ e ∷ es) ((e.0, x) ∷ es) (e ∷ put R k x es)
      by Less h = refl
      by Equal h = refl
      by Greater h = ap (λ (l : List (K × X)). e ∷ l) h

  below_keys : (k : K) (es : List (K × X)) → AllByRecursion (λ y. R k y ≡ Less) (keys_of es) → T (below_all R k es)
  below_keys k [] h = tt
  below_keys k (e ∷ es) h = both _ _ (lt_of (R k e.0) h.0) (below_keys k es h.1)

  -- the keys of a tree rise
  pub ordered_keys : (es : List (K × X)) → IsStrictlySortedBy R (keys_of es) → T (is_sorted R es)
  unfolding IsStrictlySortedBy
  ordered_keys [] h = tt
  ordered_keys (e ∷ es) h = both _ _ (below_keys e.0 es h.0) (ordered_keys es h.1)

-- Keys that are numbers --

tied_key : (k x : ℕ) → is_eq (nat_cmp k x) ≡ true → x ≡ k
tied_key k x h = grind (arith, nat_tests)

below_step : (x y : ℕ) (z : ℕ) → nat_cmp x y ≡ Less → T (is_lt (nat_cmp y z)) → T (is_lt (nat_cmp x z))
below_step x y z e h = by (nat_cmp y z) refl h (nat_cmp x z) refl
  where
    by : (o : Ordering) → nat_cmp y z ≡ o → T (is_lt o) → (p : Ordering) → nat_cmp x z ≡ p → T (is_lt p)
    by Less f g Less q = tt
    by Less f g Equal q = absurd (grind (arith, nat_tests))
    by Less f g Greater q = absurd (grind (arith, nat_tests))
    by Equal f g p q = absurd g
    by Greater f g p q = absurd g

apart_below : (k x : ℕ) → T (is_lt (nat_cmp k x)) → not (x == k) ≡ true
apart_below k x h = by (nat_cmp k x) refl h
  where
    by : (o : Ordering) → nat_cmp k x ≡ o → T (is_lt o) → not (x == k) ≡ true
    by Less e h = grind (arith, nat_tests)
    by Equal e h = absurd h
    by Greater e h = absurd h

untied_key : (k x : ℕ) → is_eq (nat_cmp k x) ≡ false → not (x == k) ≡ true
untied_key k x h = grind (arith, nat_tests)

not_itself : (k : ℕ) → not (k == k) ≡ false
not_itself k = grind (arith, nat_tests)

two_ways : (x y : ℕ) → is_eq (nat_cmp x y) ≡ true → is_eq (nat_cmp y x) ≡ false → ⊥
two_ways x y s t = grind (arith, nat_tests)

module _ {X : Type 0} where
  not_found_step : (o : Ordering) (x : X) (g : Option X) → T (is_lt o) → g ≡ None → cond (is_eq o) (Some x) g ≡ None
  not_found_step Less x g p h = h
  not_found_step Equal x g p h = absurd p
  not_found_step Greater x g p h = absurd p

  -- a key below the first isn't found
  pub not_found : (k x : ℕ) (es : List (ℕ × X)) → nat_cmp k x ≡ Less → T (below_all nat_cmp x es) → find nat_cmp k es ≡ None
  not_found k x [] e h = refl
  not_found k x (f ∷ es) e h = not_found_step (nat_cmp k f.0) f.1 (find nat_cmp k es) (below_step k x f.0 e (first _ _ h)) (not_found k x es e (second _ _ h))

  some_none : (o : Option X) → IsSome o → o ≡ None → ⊥
  some_none None h e = absurd (cc)
  some_none (Some x) h e = absurd (cc)

  -- what is written where the key has an entry is put
  pub written_is_put : (es : List (ℕ × X)) (k : ℕ) (x : X) → T (is_sorted nat_cmp es) → IsSome (find nat_cmp k es) → set_value (is_at (nat_cmp k)) es x ≡ put nat_cmp k x es
  written_is_put [] k x h some = absurd (cc)
  written_is_put (e ∷ es) k x h some = by (nat_cmp k e.0) refl some (λ g. written_is_put es k x (second _ _ h) g)
    where
      by : (o : Ordering) → nat_cmp k e.0 ≡ o → IsSome (cond (is_eq o) (Some e.1) (find nat_cmp k es)) → (IsSome (find nat_cmp k es) → set_value (is_at (nat_cmp k)) es x ≡ put nat_cmp k x es) → cond (is_eq o) ((e.0, x) ∷ es) (e ∷ set_value (is_at (nat_cmp k)) es x) ≡ by_order o ((k, x) ∷ e ∷ es) ((e.0, x) ∷ es) (e ∷ put nat_cmp k x es)
      by Less t g r = absurd (some_none (find nat_cmp k es) g (not_found k e.0 es t (first _ _ h)))
      by Equal t g r = refl
      by Greater t g r = ap (λ (l : List (ℕ × X)). e ∷ l) (r g)

  kept_above : (es : List (ℕ × X)) (k : ℕ) → T (below_all nat_cmp k es) → es ≡ where_key nat_cmp (λ x. not (x == k)) es
  kept_above [] k h = refl
  kept_above (e ∷ es) k h =
      ap (λ (l : List (ℕ × X)). e ∷ l) (kept_above es k (second _ _ h))
      ∙ sym (ap (λ b. cond b (e ∷ where_key nat_cmp (λ x. not (x == k)) es) (where_key nat_cmp (λ x. not (x == k)) es)) (apart_below k e.0 (first _ _ h)))

  -- an entry that a tree takes out leaves the others
  pub removed_is_without : (es : List (ℕ × X)) (k : ℕ) → T (is_sorted nat_cmp es) → remove_entry (is_at (nat_cmp k)) es ≡ where_key nat_cmp (λ x. not (x == k)) es
  removed_is_without [] k h = refl
  removed_is_without (e ∷ es) k h = by (is_eq (nat_cmp k e.0)) refl (removed_is_without es k (second _ _ h))
    where
      by : (b : Bool) → is_eq (nat_cmp k e.0) ≡ b → remove_entry (is_at (nat_cmp k)) es ≡ where_key nat_cmp (λ x. not (x == k)) es → cond b es (e ∷ remove_entry (is_at (nat_cmp k)) es) ≡ where_key nat_cmp (λ x. not (x == k)) (e ∷ es)
      by true t r =
          kept_above es k (subst (λ (x : ℕ). T (below_all nat_cmp x es)) (tied_key k e.0 t) (first _ _ h))
          ∙ sym (ap (λ b. cond b (e ∷ where_key nat_cmp (λ x. not (x == k)) es) (where_key nat_cmp (λ x. not (x == k)) es)) (ap (λ x. not (x == k)) (tied_key k e.0 t) ∙ not_itself k))
      by false t r = ap (λ (l : List (ℕ × X)). e ∷ l) r ∙ sym (ap (λ b. cond b (e ∷ where_key nat_cmp (λ x. not (x == k)) es) (where_key nat_cmp (λ x. not (x == k)) es)) (untied_key k e.0 t))

  -- A tree that is made of entries --

  or_else : Option X → Option X → Option X
  or_else None o = o
  or_else (Some x) o = Some x

  or_none : (o : Option X) → or_else o None ≡ o
  unfolding or_else
  or_none None = refl
  or_none (Some x) = refl

  -- a key that all are above isn't among them
  below_missed : (x q : ℕ) (es : List (ℕ × X)) → x ≡ q → T (below_all nat_cmp x es) → find nat_cmp q es ≡ None
  below_missed x q [] e h = refl
  below_missed x q (f ∷ es) e h = not_found_step (nat_cmp q f.0) f.1 (find nat_cmp q es) (subst (λ (z : ℕ). T (is_lt (nat_cmp z f.0))) e (first _ _ h)) (below_missed x q es e (second _ _ h))

  -- what the entries say of a key, or else f
  all_updated : (es : List (ℕ × X)) (f : ℕ → Option X) (q : ℕ) → T (is_sorted nat_cmp es) → update_all (eq_by_cmp nat_cmp) f es q ≡ or_else (find nat_cmp q es) (f q)
  unfolding or_else
  all_updated [] f q h = refl
  all_updated (e ∷ es) f q h = all_updated es (update (eq_by_cmp nat_cmp) f e.0 (Some e.1)) q (second _ _ h) ∙ by (eq_by_cmp nat_cmp q e.0) (eq_by_cmp nat_cmp e.0 q) refl refl
    where
      missed : is_eq (nat_cmp q e.0) ≡ true → find nat_cmp q es ≡ None
      missed t = below_missed e.0 q es (tied_key q e.0 t) (first _ _ h)

      by : (a b : Bool) → is_eq (nat_cmp q e.0) ≡ a → is_eq (nat_cmp e.0 q) ≡ b → or_else (find nat_cmp q es) (cond b (Some e.1) (f q)) ≡ or_else (cond a (Some e.1) (find nat_cmp q es)) (f q)
      by true true s t = ap (λ o. or_else o (Some e.1)) (missed s)
      by true false s t = absurd (two_ways q e.0 s t)
      by false true s t = absurd (two_ways e.0 q t s)
      by false false s t = refl

  -- a tree made of entries in order has those
  pub made_of : (es : List (ℕ × X)) (n : tree.BTreeMap ℕ X) → IsTrue (is_sorted nat_cmp es) → tree.IsFromIterResult nat_cmp es n → n.entries ≡ es
  made_of es n h r = same_entries nat_cmp nat_cmp_total exact_unsigned n.entries es (ordered_keys nat_cmp n.entries r.1) (t_of _ h) (λ q.
      sym (lookup_is_find nat_cmp n.entries q) ∙ r.0 q ∙ all_updated es (λ _. None) q (t_of _ h) ∙ or_none (find nat_cmp q es))
