-- A tree's entries: what a loan of a slot leaves, and where a walk through a part of them ends.
use Rattle.std.specs.Prelude.{◌≡◌, ℕ, suc, Bool, true, false, ◌&&◌, ◌==◌, cond, nat_le, [], ◌∷◌, Option, Some, None, filter, refl, T, IsSome, is_some}
use Rattle.std.specs.Ordering.{nat_cmp, is_eq, is_lt, is_le, eq_by_cmp}
use Rattle.std.specs.declared.cmp.Ordering.{Ordering}
use Rattle.std.specs.declared.cmp.Ordering.TheVariants.{Less, Equal, Greater}
use Rattle.std.specs.FinMap.{find, put, is_sorted}
use Rattle.std.specs.FinMap.Entries.{below_all, find-put, is_sorted-put, same_entries}
use Rattle.std.specs.BTreeMap.{is_at}
use Rattle.std.specs.Map.{lookup, set_value}
use Rattle.std.specs.Cmp.{nat_cmp_total}
use Rattle.std.proofs.lemmas.Map.Lookups.{exact_unsigned}
use Rattle.std.proofs.lemmas.Bool.Decides.{nat_tests}
use Rattle.std.proofs.Common.{sym, ◌∙◌, ap, subst, arith}
use Rattle.kr_model.specs.declared.Name.{Name}
use Rattle.kr_model.specs.declared.Name.TheVariants.{Key, End}
use Rattle.kr_model.specs.Map.{Map, get, at, after}
use Rattle.kr_model.proofs.MapLaws.{key_tie, keys_apart}
use Rattle.kr_model.proofs.Trees.{lookup_is_find, written_is_put}
use Rattle.kr_index.specs.declared.slots.Slot.{Slot}
use Rattle.kr_index.specs.Slots.{Entries, pairs_of, with_value, value_in, least, IsInOrder}
use Rattle.kr_index.proofs.SlotLaws.{get-pairs, t_in_order, t_of, first, second, pairs_are_map}

-- a slot that is written where the key has one is put
pub written : (es fs : Entries) (k : ℕ) (o w : Slot) → IsInOrder es → Some o ≡ lookup (is_at (nat_cmp k)) es → fs ≡ set_value (is_at (nat_cmp k)) es w → fs ≡ put nat_cmp k w es
written es fs k o w h found is = is ∙ written_is_put es k w (t_in_order es h) (subst IsSome (found ∙ lookup_is_find nat_cmp es k) refl)

tied_key : (k x : ℕ) → is_eq (nat_cmp k x) ≡ true → x ≡ k
tied_key k x h = grind (arith, nat_tests)

put_back : (q k : ℕ) (s : Slot) (es : Entries) → find nat_cmp k es ≡ Some s → cond (eq_by_cmp nat_cmp q k) (Some s) (find nat_cmp q es) ≡ find nat_cmp q es
put_back q k s es e = by (eq_by_cmp nat_cmp q k) refl
  where
    by : (b : Bool) → is_eq (nat_cmp q k) ≡ b → cond b (Some s) (find nat_cmp q es) ≡ find nat_cmp q es
    by true t = sym (subst (λ (x : ℕ). find nat_cmp x es ≡ Some s) (tied_key q k t) e)
    by false t = refl

-- a slot that is written as it was
pub kept_as_it_was : (es fs : Entries) (k : ℕ) (o : Slot) → IsInOrder es → Some o ≡ lookup (is_at (nat_cmp k)) es → fs ≡ set_value (is_at (nat_cmp k)) es o → fs ≡ es
kept_as_it_was es fs k o h found is =
    written es fs k o o h found is
    ∙ same_entries nat_cmp nat_cmp_total exact_unsigned (put nat_cmp k o es) es (is_sorted-put nat_cmp nat_cmp_total k o es (t_in_order es h)) (t_in_order es h) (λ q. find-put nat_cmp nat_cmp_total q k o es ∙ put_back q k o es (sym (found ∙ lookup_is_find nat_cmp es k)))

-- one pin more or less
pub pins_by : (g f : ℕ → ℕ) (k q p : ℕ) → p ≡ g (f k) → cond (q == k) p (f q) ≡ cond (q == k) (g (f q)) (f q)
pins_by g f k q p e = by (q == k) refl
  where
    same : (q == k) ≡ true → k ≡ q
    same t = grind (arith, nat_tests)

    by : (b : Bool) → (q == k) ≡ b → cond b p (f q) ≡ cond b (g (f q)) (f q)
    by true t = e ∙ ap (λ x. g (f x)) (same t)
    by false t = refl

-- no pin more or less
pub pins_same : (f : ℕ → ℕ) (k q p : ℕ) → p ≡ f k → cond (q == k) p (f q) ≡ f q
pins_same f k q p e = pins_by (λ n. n) f k q p e ∙ by (q == k)
  where
    by : (b : Bool) → cond b (f q) (f q) ≡ f q
    by true = refl
    by false = refl

-- Walks --

-- the entries with keys from c on, and past k
abbrev pub from : ℕ → Entries → Entries
from c es = filter (λ e. is_le (nat_cmp c e.0) && true) es

abbrev pub past : ℕ → Entries → Entries
past k es = filter (λ e. is_lt (nat_cmp k e.0) && true) es

le_test : (c x : ℕ) → (is_le (nat_cmp c x) && true) ≡ nat_le c x
le_test c x = grind (arith, nat_tests)

lt_test : (k x : ℕ) → (is_lt (nat_cmp k x) && true) ≡ nat_le (suc k) x
lt_test k x = grind (arith, nat_tests)

walk_step : (k c : ℕ) (s : Slot) (es rest : Entries) (a b : Bool) → a ≡ b → nat_le c k ≡ b → at (pairs_of es) c ≡ least (pairs_of rest) → at (with_value k s.value (pairs_of es)) c ≡ least (pairs_of (cond a ((k, s) ∷ rest) rest))
walk_step k c s es rest a b same le h = by s.value refl a b same le
  where
    by : (o : Option ℕ) → s.value ≡ o → (a b : Bool) → a ≡ b → nat_le c k ≡ b → at (with_value k o (pairs_of es)) c ≡ least (pairs_of (cond a ((k, s) ∷ rest) rest))
    by None e true b same le = h ∙ ap least (sym (ap (λ o. with_value k o (pairs_of rest)) e))
    by None e false b same le = h
    by (Some v) e true true same le = ap (λ t. cond t (Key k) (at (pairs_of es) c)) le ∙ ap least (sym (ap (λ o. with_value k o (pairs_of rest)) e))
    by (Some v) e false false same le = ap (λ t. cond t (Key k) (at (pairs_of es) c)) le ∙ h
    by (Some v) e true false same le = absurd (cc)
    by (Some v) e false true same le = absurd (cc)

-- the name at c is the first of the entries from c on
pub at_from : (es : Entries) (c : ℕ) → at (pairs_of es) c ≡ least (pairs_of (from c es))
at_from [] c = refl
at_from (e ∷ es) c = walk_step e.0 c e.1 es (from c es) (is_le (nat_cmp c e.0) && true) (nat_le c e.0) (le_test c e.0) refl (at_from es c)

-- the name after k is the first of the entries past k
pub after_past : (es : Entries) (k : ℕ) → after (pairs_of es) k ≡ least (pairs_of (past k es))
after_past [] k = refl
after_past (e ∷ es) k = walk_step e.0 (suc k) e.1 es (past k es) (is_lt (nat_cmp k e.0) && true) (nat_le (suc k) e.0) (lt_test k e.0) refl (after_past es k)

-- the name at c is the first key from c on where that has a value
pub at_first : (es rest : Entries) (c k : ℕ) (s : Slot) → from c es ≡ (k, s) ∷ rest → is_some s.value ≡ true → Key k ≡ at (pairs_of es) c
at_first es rest c k s is has = sym (at_from es c ∙ ap (λ l. least (pairs_of l)) is ∙ by s.value has)
  where
    by : (o : Option ℕ) → is_some o ≡ true → least (with_value k o (pairs_of rest)) ≡ Key k
    by None h = absurd (cc)
    by (Some v) h = refl

-- there is no name at c where there is no entry from c on
pub at_end : (es : Entries) (c : ℕ) → from c es ≡ [] → End ≡ at (pairs_of es) c
at_end es c is = sym (at_from es c ∙ ap (λ l. least (pairs_of l)) is)

passes : (es rest : Entries) (c k : ℕ) (s : Slot) → from c es ≡ (k, s) ∷ rest → (is_le (nat_cmp c k) && true) ≡ true
passes [] rest c k s is = absurd (cc)
passes (e ∷ es) rest c k s is = by (is_le (nat_cmp c e.0) && true) refl is (passes es rest c k s)
  where
    by : (b : Bool) → (is_le (nat_cmp c e.0) && true) ≡ b → cond b (e ∷ from c es) (from c es) ≡ (k, s) ∷ rest → (from c es ≡ (k, s) ∷ rest → (is_le (nat_cmp c k) && true) ≡ true) → (is_le (nat_cmp c k) && true) ≡ true
    by true t is more = let same : e ≡ (k, s) = cc in subst (λ (x : ℕ × Slot). (is_le (nat_cmp c x.0) && true) ≡ true) same t
    by false t is more = more is

first_found : (es rest : Entries) (c k : ℕ) (s : Slot) → from c es ≡ (k, s) ∷ rest → find nat_cmp k es ≡ Some s
first_found [] rest c k s is = absurd (cc)
first_found (e ∷ es) rest c k s is = by (is_le (nat_cmp c e.0) && true) refl is (passes (e ∷ es) rest c k s is) (first_found es rest c k s)
  where
    own : find nat_cmp e.0 (e ∷ es) ≡ Some e.1
    own = ap (λ b. cond b (Some e.1) (find nat_cmp e.0 es)) (key_tie e.0)

    differ : (x y : ℕ) → (is_le (nat_cmp c x) && true) ≡ false → (is_le (nat_cmp c y) && true) ≡ true → y ≡ x → ⊥
    differ x y p q e = grind (arith, nat_tests)

    by : (b : Bool) → (is_le (nat_cmp c e.0) && true) ≡ b → cond b (e ∷ from c es) (from c es) ≡ (k, s) ∷ rest → (is_le (nat_cmp c k) && true) ≡ true → (from c es ≡ (k, s) ∷ rest → find nat_cmp k es ≡ Some s) → find nat_cmp k (e ∷ es) ≡ Some s
    by true t is le more = let same : e ≡ (k, s) = cc in subst (λ (x : ℕ × Slot). find nat_cmp x.0 (e ∷ es) ≡ Some x.1) same own
    by false t is le more = ap (λ b. cond b (Some e.1) (find nat_cmp k es)) (keys_apart k e.0 (differ e.0 k t le)) ∙ more is

-- the first key from c on has the value of its slot
pub first_value : (es rest : Entries) (c k : ℕ) (s : Slot) → IsInOrder es → from c es ≡ (k, s) ∷ rest → get (pairs_of es) k ≡ s.value
first_value es rest c k s h is = get-pairs es k h ∙ ap value_in (first_found es rest c k s is)

-- What the name at a key says of the key --

abbrev pub is_key : ℕ → Name → Bool
is_key k (Key x) = x == k
is_key k End = false

missed_pair : (k x : ℕ) (m : Map) → nat_cmp k x ≡ Less → T (below_all nat_cmp x m) → get m k ≡ None
missed_pair k x [] e h = refl
missed_pair k x (f ∷ m) e h = by (nat_cmp k f.0) (below_step k x f.0 e (first _ _ h)) (missed_pair k x m e (second _ _ h))
  where
    below_step : (k x y : ℕ) → nat_cmp k x ≡ Less → T (is_lt (nat_cmp x y)) → T (is_lt (nat_cmp k y))
    below_step k x y e h = grind (arith, nat_tests)

    by : (o : Ordering) → T (is_lt o) → get m k ≡ None → cond (is_eq o) (Some f.1) (get m k) ≡ None
    by Less p g = g
    by Equal p g = absurd p
    by Greater p g = absurd p

-- a key is present exactly where it is the name at itself
pub present_at : (m : Map) (k : ℕ) → T (is_sorted nat_cmp m) → is_key k (at m k) ≡ is_some (get m k)
present_at [] k h = refl
present_at (e ∷ m) k h = by (nat_cmp k e.0) refl (nat_le k e.0) refl (present_at m k (second _ _ h))
  where
    by : (o : Ordering) → nat_cmp k e.0 ≡ o → (b : Bool) → nat_le k e.0 ≡ b → is_key k (at m k) ≡ is_some (get m k) → is_key k (cond b (Key e.0) (at m k)) ≡ is_some (cond (is_eq o) (Some e.1) (get m k))
    by Less t true l r = (grind (arith, nat_tests)) ∙ sym (ap is_some (missed_pair k e.0 m t (first _ _ h)))
    by Less t false l r = absurd (grind (arith, nat_tests))
    by Equal t true l r = grind (arith, nat_tests)
    by Equal t false l r = absurd (grind (arith, nat_tests))
    by Greater t true l r = absurd (grind (arith, nat_tests))
    by Greater t false l r = r

-- the same of the pairs of entries in order, by the name that was found
pub present_in : (es : Entries) (k : ℕ) (n : Name) → IsInOrder es → n ≡ at (pairs_of es) k → is_key k n ≡ is_some (get (pairs_of es) k)
present_in es k n h e = ap (is_key k) e ∙ present_at (pairs_of es) k (t_of _ (pairs_are_map es h))
