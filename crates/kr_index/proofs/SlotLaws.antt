-- What edits of an index's entries do to its pairs and pins.
use Rattle.std.specs.Prelude.{◌≡◌, ℕ, Bool, true, false, not, ◌==◌, cond, IsTrue, T, Option, Some, None, List, [], ◌∷◌, refl, ◌&&◌}
use Rattle.std.specs.declared.cmp.Ordering.{Ordering}
use Rattle.std.specs.declared.cmp.Ordering.TheVariants.{Less, Equal, Greater}
use Rattle.std.specs.Ordering.{nat_cmp, eq_by_cmp, is_eq, is_lt}
use Rattle.std.specs.Cmp.{nat_cmp_total}
use Rattle.std.specs.FinMap.{find, put, is_sorted}
use Rattle.std.specs.FinMap.Entries.{below_all, where_key, is_sorted-put, is_sorted-where_key, find-put, find-where_key, same_entries}
use Rattle.std.proofs.lemmas.Map.Lookups.{exact_unsigned}
use Rattle.std.proofs.lemmas.Bool.Decides.{nat_tests}
use Rattle.std.proofs.Common.{sym, ◌∙◌, ap, arith, subst}
use Rattle.kr_model.specs.Map.{Map, IsMap, get, restore}
use Rattle.kr_index.specs.declared.slots.Slot.{Slot}
use Rattle.kr_index.specs.Slots.{pairs_of, with_value, value_in, pins_in, pins_of, unpinned, IsInOrder}

pub t_of : (b : Bool) → IsTrue b → T b
t_of b h = subst (λ (c : Bool). T c) (sym h) tt

of_t : (b : Bool) → T b → IsTrue b
of_t true h = refl
of_t false h = absurd h

both : (a b : Bool) → T a → T b → T (a && b)
both true b p q = q
both false b p q = p

-- the first of two tests that both hold
pub first : (a b : Bool) → T (a && b) → T a
first true b p = tt
first false b p = p

-- the second of two tests that both hold
pub second : (a b : Bool) → T (a && b) → T b
second true b p = p
second false b p = absurd p

below_with : (x k : ℕ) (o : Option ℕ) (m : Map) → T (is_lt (nat_cmp x k)) → T (below_all nat_cmp x m) → T (below_all nat_cmp x (with_value k o m))
below_with x k None m lt h = h
below_with x k (Some v) m lt h = both _ _ lt h

below_pairs : (x : ℕ) (es : List (ℕ × Slot)) → T (below_all nat_cmp x es) → T (below_all nat_cmp x (pairs_of es))
below_pairs x [] h = tt
below_pairs x (e ∷ es) h = below_with x e.0 e.1.value (pairs_of es) (first _ _ h) (below_pairs x es (second _ _ h))

sorted_with : (k : ℕ) (o : Option ℕ) (m : Map) → T (below_all nat_cmp k m) → T (is_sorted nat_cmp m) → T (is_sorted nat_cmp (with_value k o m))
sorted_with k None m b s = s
sorted_with k (Some v) m b s = both _ _ b s

sorted_pairs : (es : List (ℕ × Slot)) → T (is_sorted nat_cmp es) → T (is_sorted nat_cmp (pairs_of es))
sorted_pairs [] h = tt
sorted_pairs (e ∷ es) h = sorted_with e.0 e.1.value (pairs_of es) (below_pairs e.0 es (first _ _ h)) (sorted_pairs es (second _ _ h))

-- the keys of the pairs rise
pub pairs_are_map : (es : List (ℕ × Slot)) → IsInOrder es → IsMap (pairs_of es)
pairs_are_map es h = of_t _ (sorted_pairs es (t_of _ h))

-- what is below all of a map isn't in it
not_below_step : (o : Ordering) (v : ℕ) (g : Option ℕ) → T (is_lt o) → g ≡ None → cond (is_eq o) (Some v) g ≡ None
not_below_step Less v g p h = h
not_below_step Equal v g p h = absurd p
not_below_step Greater v g p h = absurd p

not_below : (q : ℕ) (m : Map) → T (below_all nat_cmp q m) → get m q ≡ None
not_below q [] h = refl
not_below q (e ∷ es) h = not_below_step (nat_cmp q e.0) e.1 (get es q) (first _ _ h) (not_below q es (second _ _ h))

get_with : (q k : ℕ) (o : Option ℕ) (m : Map) (r : Option Slot) → T (below_all nat_cmp k m) → get m q ≡ value_in r → get (with_value k o m) q ≡ cond (eq_by_cmp nat_cmp q k) o (value_in r)
get_with q k None m r b h = elim (eq_by_cmp nat_cmp q k) as (λ t. eq_by_cmp nat_cmp q k ≡ t → get m q ≡ cond t None (value_in r)) [
  | true ↦ λ e. subst (λ x. get m x ≡ None) (same e) (not_below k m b)
  | false ↦ λ e. h
] refl
  where
    tied : (o : Ordering) → is_eq o ≡ true → o ≡ Equal
    tied Less e = absurd (cc)
    tied Equal e = refl
    tied Greater e = absurd (cc)

    same : eq_by_cmp nat_cmp q k ≡ true → k ≡ q
    same e = sym (exact_unsigned q k (tied (nat_cmp q k) e))
get_with q k (Some v) m r b h = ap (λ x. cond (eq_by_cmp nat_cmp q k) (Some v) x) h

value_cond : (b : Bool) (s : Slot) (r : Option Slot) → value_in (cond b (Some s) r) ≡ cond b s.value (value_in r)
value_cond true s r = refl
value_cond false s r = refl

get_pairs : (es : List (ℕ × Slot)) (q : ℕ) → T (is_sorted nat_cmp es) → get (pairs_of es) q ≡ value_in (find nat_cmp q es)
get_pairs [] q h = refl
get_pairs (e ∷ es) q h =
    get_with q e.0 e.1.value (pairs_of es) (find nat_cmp q es) (below_pairs e.0 es (first _ _ h)) (get_pairs es q (second _ _ h))
    ∙ sym (value_cond (eq_by_cmp nat_cmp q e.0) e.1 (find nat_cmp q es))

-- the value of a key
pub get-pairs : (es : List (ℕ × Slot)) (q : ℕ) → IsInOrder es → get (pairs_of es) q ≡ value_in (find nat_cmp q es)
get-pairs es q h = get_pairs es q (t_of _ h)

-- an entry that is written keeps the order
pub in_order-put : (es : List (ℕ × Slot)) (k : ℕ) (s : Slot) → IsInOrder es → IsInOrder (put nat_cmp k s es)
in_order-put es k s h = of_t _ (is_sorted-put nat_cmp nat_cmp_total k s es (t_of _ h))

-- entries without a key stay in order
pub in_order-remove : (es : List (ℕ × Slot)) (k : ℕ) → IsInOrder es → IsInOrder (where_key nat_cmp (λ x. not (x == k)) es)
in_order-remove es k h = of_t _ (is_sorted-where_key nat_cmp (λ x. not (x == k)) es (t_of _ h))

is_map-restore : (m : Map) (k : ℕ) (o : Option ℕ) → IsMap m → T (is_sorted nat_cmp (restore m k o))
is_map-restore m k None h = is_sorted-where_key nat_cmp (λ x. not (x == k)) m (t_of _ h)
is_map-restore m k (Some v) h = is_sorted-put nat_cmp nat_cmp_total k v m (t_of _ h)

same_test : (q k : ℕ) → not (q == k) ≡ not (eq_by_cmp nat_cmp q k)
same_test q k = grind (arith, nat_tests)

flip_cond : (b : Bool) (x : Option ℕ) → cond (not b) x None ≡ cond b None x
flip_cond true x = refl
flip_cond false x = refl

get-restore : (m : Map) (k : ℕ) (o : Option ℕ) (q : ℕ) → get (restore m k o) q ≡ cond (eq_by_cmp nat_cmp q k) o (get m q)
get-restore m k None q =
    find-where_key nat_cmp (λ x. not (x == k)) q (λ x e. ap (λ y. not (y == k)) (sym (exact_unsigned q x e))) m
    ∙ ap (λ b. cond b (get m q) None) (same_test q k) ∙ flip_cond (eq_by_cmp nat_cmp q k) (get m q)
get-restore m k (Some v) q = find-put nat_cmp nat_cmp_total q k v m

-- an entry is written: its key is as the slot says
pub pairs-put : (es : List (ℕ × Slot)) (k : ℕ) (s : Slot) → IsInOrder es → pairs_of (put nat_cmp k s es) ≡ restore (pairs_of es) k s.value
pairs-put es k s h = same_entries nat_cmp nat_cmp_total exact_unsigned (pairs_of (put nat_cmp k s es)) (restore (pairs_of es) k s.value) (sorted_pairs (put nat_cmp k s es) (t_of _ (in_order-put es k s h))) (is_map-restore (pairs_of es) k s.value (pairs_are_map es h)) (λ q.
    get-pairs (put nat_cmp k s es) q (in_order-put es k s h)
    ∙ ap value_in (find-put nat_cmp nat_cmp_total q k s es)
    ∙ value_cond (eq_by_cmp nat_cmp q k) s (find nat_cmp q es)
    ∙ sym (get-restore (pairs_of es) k s.value q ∙ ap (λ x. cond (eq_by_cmp nat_cmp q k) s.value x) (get-pairs es q h)))

restore_at : (m : Map) (k q : ℕ) (b : Bool) → eq_by_cmp nat_cmp q k ≡ b → cond b (get m k) (get m q) ≡ get m q
restore_at m k q true e = ap (get m) (sym (exact_unsigned q k (tied (nat_cmp q k) e)))
  where
    tied : (o : Ordering) → is_eq o ≡ true → o ≡ Equal
    tied Less e = absurd (cc)
    tied Equal e = refl
    tied Greater e = absurd (cc)
restore_at m k q false e = refl

-- a key put back as it is
pub restore_same : (m : Map) (k : ℕ) (o : Option ℕ) → IsMap m → get m k ≡ o → restore m k o ≡ m
restore_same m k o h e = same_entries nat_cmp nat_cmp_total exact_unsigned _ _ (is_map-restore m k o h) (t_of _ h) (λ q.
    get-restore m k o q ∙ ap (λ x. cond (eq_by_cmp nat_cmp q k) x (get m q)) (sym e) ∙ restore_at m k q (eq_by_cmp nat_cmp q k) refl)

-- an entry is written with the value that it had
pub pairs-put_same : (es : List (ℕ × Slot)) (k : ℕ) (s : Slot) → IsInOrder es → value_in (find nat_cmp k es) ≡ s.value → pairs_of (put nat_cmp k s es) ≡ pairs_of es
pairs-put_same es k s h e = pairs-put es k s h ∙ restore_same (pairs_of es) k s.value (pairs_are_map es h) (get-pairs es k h ∙ e)

value_where : (b : Bool) (o : Option Slot) → value_in (cond b o None) ≡ cond b (value_in o) None
value_where true o = refl
value_where false o = refl

find-remove : (es : List (ℕ × Slot)) (k q : ℕ) → find nat_cmp q (where_key nat_cmp (λ x. not (x == k)) es) ≡ cond (not (q == k)) (find nat_cmp q es) None
find-remove es k q = find-where_key nat_cmp (λ x. not (x == k)) q (λ x e. ap (λ y. not (y == k)) (sym (exact_unsigned q x e))) es

-- an entry without a value is taken away
pub pairs-remove : (es : List (ℕ × Slot)) (k : ℕ) → IsInOrder es → value_in (find nat_cmp k es) ≡ None → pairs_of (where_key nat_cmp (λ x. not (x == k)) es) ≡ pairs_of es
pairs-remove es k h e =
    same_entries nat_cmp nat_cmp_total exact_unsigned (pairs_of (where_key nat_cmp (λ x. not (x == k)) es)) (pairs_of es) (sorted_pairs (where_key nat_cmp (λ x. not (x == k)) es) (t_of _ (in_order-remove es k h))) (t_of _ (pairs_are_map es h)) (λ q.
    get-pairs (where_key nat_cmp (λ x. not (x == k)) es) q (in_order-remove es k h)
    ∙ ap value_in (find-remove es k q)
    ∙ value_where (not (q == k)) (find nat_cmp q es)
    ∙ ap (λ x. cond (not (q == k)) x None) (sym (get-pairs es q h))
    ∙ sym (find-where_key nat_cmp (λ x. not (x == k)) q (λ x f. ap (λ y. not (y == k)) (sym (exact_unsigned q x f))) (pairs_of es))
    ∙ ap (λ (m : Map). get m q) (restore_same (pairs_of es) k None (pairs_are_map es h) (get-pairs es k h ∙ e)))

pins_cond : (b : Bool) (s : Slot) (r : Option Slot) → pins_in (cond b (Some s) r) ≡ cond b s.pins (pins_in r)
pins_cond true s r = refl
pins_cond false s r = refl

tests_agree : (q k : ℕ) → eq_by_cmp nat_cmp q k ≡ (q == k)
tests_agree q k = grind (arith, nat_tests)

-- an entry is written: its key has the slot's pins, and the others have theirs
pub pins-put : (es : List (ℕ × Slot)) (k : ℕ) (s : Slot) (q : ℕ) → pins_of (put nat_cmp k s es) q ≡ cond (q == k) s.pins (pins_of es q)
pins-put es k s q = ap pins_in (find-put nat_cmp nat_cmp_total q k s es) ∙ pins_cond (eq_by_cmp nat_cmp q k) s (find nat_cmp q es) ∙ ap (λ b. cond b s.pins (pins_of es q)) (tests_agree q k)

pins_where : (b : Bool) (o : Option Slot) → pins_in (cond (not b) o None) ≡ cond b 0 (pins_in o)
pins_where true o = refl
pins_where false o = refl

-- an entry is taken away: its key has no pins, and the others have theirs
pub pins-remove : (es : List (ℕ × Slot)) (k q : ℕ) → pins_of (where_key nat_cmp (λ x. not (x == k)) es) q ≡ cond (q == k) 0 (pins_of es q)
pins-remove es k q = ap pins_in (find-remove es k q) ∙ pins_where (q == k) (find nat_cmp q es)

-- the order as a test that holds
pub t_in_order : (es : List (ℕ × Slot)) → IsInOrder es → T (is_sorted nat_cmp es)
t_in_order es h = t_of _ h

-- Entries made of pairs.

below-unpinned : (x : ℕ) (m : Map) → below_all nat_cmp x (unpinned m) ≡ below_all nat_cmp x m
below-unpinned x [] = refl
below-unpinned x (p ∷ ps) = ap (λ b. is_lt (nat_cmp x p.0) && b) (below-unpinned x ps)

sorted-unpinned : (m : Map) → is_sorted nat_cmp (unpinned m) ≡ is_sorted nat_cmp m
sorted-unpinned [] = refl
sorted-unpinned (p ∷ ps) = ap (λ b. b && is_sorted nat_cmp (unpinned ps)) (below-unpinned p.0 ps) ∙ ap (λ b. below_all nat_cmp p.0 ps && b) (sorted-unpinned ps)

-- entries made of a map are in order
pub in_order-unpinned : (m : Map) → IsMap m → IsInOrder (unpinned m)
in_order-unpinned m h = sorted-unpinned m ∙ h

-- their pairs are the map's
pub pairs-unpinned : (m : Map) → pairs_of (unpinned m) ≡ m
pairs-unpinned [] = refl
pairs-unpinned (p ∷ ps) = ap (λ (l : Map). p ∷ l) (pairs-unpinned ps)

no_pins_by : (b : Bool) (s : Slot) (r : Option Slot) → s.pins ≡ 0 → pins_in r ≡ 0 → pins_in (cond b (Some s) r) ≡ 0
no_pins_by true s r e f = e
no_pins_by false s r e f = f

-- none of them has a pin
pub pins-unpinned : (m : Map) (q : ℕ) → pins_of (unpinned m) q ≡ 0
pins-unpinned [] q = refl
pins-unpinned (p ∷ ps) q = no_pins_by (eq_by_cmp nat_cmp q p.0) (record { value = Some p.1; pins = 0 }) (find nat_cmp q (unpinned ps)) refl (pins-unpinned ps q)
