-- What the entries of an index say of its keys: values and counts, and what an edit does to them.
use Rattle.std.specs.Prelude.{◌≡◌, ℕ, ◌<◌, Bool, true, false, not, ◌==◌, cond, if◌then◌else◌, T, Option, IsSome, Some, None, List, [], ◌∷◌, filter, unwrap_or, refl, ◌&&◌}
use Rattle.std.specs.declared.cmp.Ordering.{Ordering}
use Rattle.std.specs.declared.cmp.Ordering.TheVariants.{Less, Equal, Greater}
use Rattle.std.specs.Ordering.{nat_cmp, eq_by_cmp, is_eq, is_lt}
use Rattle.std.specs.Cmp.{nat_cmp_total}
use Rattle.std.specs.FinMap.{find, put, is_sorted}
use Rattle.std.specs.FinMap.Entries.{below_all, find-put, same_entries}
use Rattle.std.specs.BTreeMap.{is_at}
use Rattle.std.specs.Map.{lookup, set_value}
use Rattle.std.proofs.lemmas.Map.Lookups.{exact_unsigned}
use Rattle.std.proofs.lemmas.Bool.Decides.{nat_tests}
use Rattle.std.proofs.Common.{sym, ◌∙◌, ap, subst, arith}
use Rattle.kr_model.specs.Map.{Map, IsMap, get, restore, without}
use Rattle.kr_model.proofs.Actives.{find_filter}
use Rattle.kr_model.proofs.MapLaws.{same_test, sorted_put, sorted_where, t_of, true_of}
use Rattle.kr_model.proofs.Trees.{both, first, second, lookup_is_find, written_is_put}
use Rattle.kr_model.proofs.UndoLaws.{get-restore, IsMap-restore}
use Rattle.kr_ghost.proofs.Names.{same_of}
use Rattle.kr_ghost_index.specs.declared.slots.Slot.{Slot}
use Rattle.kr_ghost_index.specs.Slots.{Entries, IsInOrder, with_value, map_of, counts_of, value_in, changes_in, changes_of, unchanged}

-- Tests --

-- equality, turned round
pub turned : (q x : ℕ) → (q == x) ≡ (x == q)
turned q x = grind (arith, nat_tests)

-- a key below another
pub less_of : (x k : ℕ) → T (is_lt (nat_cmp x k)) → x < k
less_of x k h = grind (arith, nat_tests)

missed_step : {X : Type 0} (o : Ordering) (v : X) (g : Option X) → T (is_lt o) → g ≡ None → cond (is_eq o) (Some v) g ≡ None
missed_step Less v g p h = h
missed_step Equal v g p h = absurd p
missed_step Greater v g p h = absurd p

-- a key below all entries has none
missed : {X : Type 0} (x : ℕ) (es : List (ℕ × X)) → T (below_all nat_cmp x es) → find nat_cmp x es ≡ None
missed x [] h = refl
missed x (e ∷ es) h = missed_step (nat_cmp x e.0) e.1 (find nat_cmp x es) (first _ _ h) (missed x es (second _ _ h))

-- nor has one that ties with it
pub missed_tied : {X : Type 0} (q x : ℕ) (es : List (ℕ × X)) → eq_by_cmp nat_cmp q x ≡ true → T (below_all nat_cmp x es) → find nat_cmp q es ≡ None
missed_tied q x es t h = let same : x ≡ q = same_of x q (sym (same_test q x (x == q) refl) ∙ t) in ap (λ k. find nat_cmp k es) (sym same) ∙ missed x es h

-- The order --

below_with : (x k : ℕ) (o : Option ℕ) (m : Map) → T (is_lt (nat_cmp x k)) → T (below_all nat_cmp x m) → T (below_all nat_cmp x (with_value k o m))
below_with x k None m lt h = h
below_with x k (Some v) m lt h = both _ _ lt h

below_map : (x : ℕ) (es : Entries) → T (below_all nat_cmp x es) → T (below_all nat_cmp x (map_of es))
below_map x [] h = tt
below_map x (e ∷ es) h = below_with x e.0 e.1.value (map_of es) (first _ _ h) (below_map x es (second _ _ h))

sorted_with : (k : ℕ) (o : Option ℕ) (m : Map) → T (below_all nat_cmp k m) → T (is_sorted nat_cmp m) → T (is_sorted nat_cmp (with_value k o m))
sorted_with k None m b s = s
sorted_with k (Some v) m b s = both _ _ b s

sorted_map : (es : Entries) → T (is_sorted nat_cmp es) → T (is_sorted nat_cmp (map_of es))
sorted_map [] h = tt
sorted_map (e ∷ es) h = sorted_with e.0 e.1.value (map_of es) (below_map e.0 es (first _ _ h)) (sorted_map es (second _ _ h))

-- the keys of the pairs rise
pub is_map : (es : Entries) → IsInOrder es → IsMap (map_of es)
is_map es h = true_of _ (sorted_map es (t_of _ h))

-- Slots written through a loan --

-- a slot that is written where the key has one is put
pub written : (es fs : Entries) (k : ℕ) (o w : Slot) → IsInOrder es → Some o ≡ lookup (is_at (nat_cmp k)) es → fs ≡ set_value (is_at (nat_cmp k)) es w → fs ≡ put nat_cmp k w es
written es fs k o w h found is = is ∙ written_is_put es k w (t_of _ h) (subst IsSome (found ∙ lookup_is_find nat_cmp es k) refl)

-- a key that has a slot, put back
put_back : (q k : ℕ) (s : Slot) (es : Entries) (b : Bool) → (k == q) ≡ b → find nat_cmp k es ≡ Some s → cond b (Some s) (find nat_cmp q es) ≡ find nat_cmp q es
put_back q k s es true t e = sym e ∙ ap (λ x. find nat_cmp x es) (same_of k q t)
put_back q k s es false t e = refl

-- a slot that is written as it was
pub kept_as_it_was : (es fs : Entries) (k : ℕ) (o : Slot) → IsInOrder es → Some o ≡ lookup (is_at (nat_cmp k)) es → fs ≡ set_value (is_at (nat_cmp k)) es o → fs ≡ es
kept_as_it_was es fs k o h found is =
    written es fs k o o h found is
    ∙ same_entries nat_cmp nat_cmp_total exact_unsigned (put nat_cmp k o es) es (t_of _ (sorted_put k o es h)) (t_of _ h) (λ q.
    find-put nat_cmp nat_cmp_total q k o es
    ∙ ap (λ b. cond b (Some o) (find nat_cmp q es)) (same_test q k (k == q) refl)
    ∙ put_back q k o es (k == q) refl (sym (found ∙ lookup_is_find nat_cmp es k)))

-- Values --

get_map : (es : Entries) (q : ℕ) → T (is_sorted nat_cmp es) → get (map_of es) q ≡ value_in (find nat_cmp q es)
get_map [] q h = refl
get_map (e ∷ es) q h = by (eq_by_cmp nat_cmp q e.0) refl e.1.value refl (get_map es q (second _ _ h))
  where
    by : (b : Bool) → eq_by_cmp nat_cmp q e.0 ≡ b → (o : Option ℕ) → e.1.value ≡ o → get (map_of es) q ≡ value_in (find nat_cmp q es)
        → get (with_value e.0 o (map_of es)) q ≡ value_in (cond b (Some e.1) (find nat_cmp q es))
    by true t None is more = more ∙ ap value_in (missed_tied q e.0 es t (first _ _ h)) ∙ sym is
    by false t None is more = more
    by true t (Some v) is more = ap (λ b. cond b (Some v) (get (map_of es) q)) t ∙ sym is
    by false t (Some v) is more = ap (λ b. cond b (Some v) (get (map_of es) q)) t ∙ more

-- the value of a key
pub get-map : (es : Entries) (q : ℕ) → IsInOrder es → get (map_of es) q ≡ value_in (find nat_cmp q es)
get-map es q h = get_map es q (t_of _ h)

-- two maps with the same value at each key are the same
same_map : (m n : Map) → IsMap m → IsMap n → ((q : ℕ) → get m q ≡ get n q) → m ≡ n
same_map m n h k same = same_entries nat_cmp nat_cmp_total exact_unsigned m n (t_of _ h) (t_of _ k) same

value_cond : (b : Bool) (s : Slot) (r : Option Slot) → value_in (cond b (Some s) r) ≡ cond b s.value (value_in r)
value_cond true s r = refl
value_cond false s r = refl

-- entries in order are so after one is put
pub in_order-put : (es : Entries) (k : ℕ) (s : Slot) → IsInOrder es → IsInOrder (put nat_cmp k s es)
in_order-put es k s h = sorted_put k s es h

-- and a put one gives its key its value
pub map-put : (es : Entries) (k : ℕ) (s : Slot) → IsInOrder es → map_of (put nat_cmp k s es) ≡ restore (map_of es) k s.value
map-put es k s h = same_map _ _ (is_map (put nat_cmp k s es) (in_order-put es k s h)) (IsMap-restore (map_of es) k s.value (is_map es h)) (λ q.
    get-map (put nat_cmp k s es) q (in_order-put es k s h)
    ∙ ap value_in (find-put nat_cmp nat_cmp_total q k s es)
    ∙ value_cond (eq_by_cmp nat_cmp q k) s (find nat_cmp q es)
    ∙ ap (λ b. cond b s.value (value_in (find nat_cmp q es))) (same_test q k (k == q) refl)
    ∙ ap (λ o. cond (k == q) s.value o) (sym (get-map es q h))
    ∙ sym (get-restore (map_of es) k s.value q))

restored_at : (m : Map) (k q : ℕ) (b : Bool) → (k == q) ≡ b → cond b (get m k) (get m q) ≡ get m q
restored_at m k q true e = ap (get m) (same_of k q e)
restored_at m k q false e = refl

-- a key that is given the value that it has
restore_same : (m : Map) (k : ℕ) (o : Option ℕ) → IsMap m → get m k ≡ o → restore m k o ≡ m
restore_same m k o h e = same_map (restore m k o) m (IsMap-restore m k o h) h (λ q.
    get-restore m k o q ∙ ap (λ x. cond (k == q) x (get m q)) (sym e) ∙ restored_at m k q (k == q) refl)

-- one that is put with the value that its key has leaves the pairs
pub map-put_same : (es : Entries) (k : ℕ) (s : Slot) → IsInOrder es → value_in (find nat_cmp k es) ≡ s.value → map_of (put nat_cmp k s es) ≡ map_of es
map-put_same es k s h e = map-put es k s h ∙ restore_same (map_of es) k s.value (is_map es h) (get-map es k h ∙ e)

-- entries in order are so without a key
pub in_order-remove : (es : Entries) (k : ℕ) → IsInOrder es → IsInOrder (filter (λ e. not (e.0 == k)) es)
in_order-remove es k h = sorted_where (λ x. not (x == k)) es h

kept_pair : (x k : ℕ) (o : Option ℕ) (b : Bool) (s : Slot) (es fs : Entries) → not (x == k) ≡ b → s.value ≡ o → map_of fs ≡ without (map_of es) k
    → map_of (cond b ((x, s) ∷ fs) fs) ≡ without (with_value x o (map_of es)) k
kept_pair x k None true s es fs e is more = ap (λ o. with_value x o (map_of fs)) is ∙ more
kept_pair x k None false s es fs e is more = more
kept_pair x k (Some v) true s es fs e is more = ap (λ o. with_value x o (map_of fs)) is ∙ ap (λ (m : Map). (x, v) ∷ m) more ∙ sym (ap (λ b. cond b ((x, v) ∷ without (map_of es) k) (without (map_of es) k)) e)
kept_pair x k (Some v) false s es fs e is more = more ∙ sym (ap (λ b. cond b ((x, v) ∷ without (map_of es) k) (without (map_of es) k)) e)

-- the pairs without a key
map-without : (es : Entries) (k : ℕ) → map_of (filter (λ e. not (e.0 == k)) es) ≡ without (map_of es) k
map-without [] k = refl
map-without (e ∷ es) k = kept_pair e.0 k e.1.value (not (e.0 == k)) e.1 es (filter (λ e. not (e.0 == k)) es) refl refl (map-without es k)

-- without a key that has no value the pairs are the same
pub map-remove : (es : Entries) (k : ℕ) → IsInOrder es → value_in (find nat_cmp k es) ≡ None → map_of (filter (λ e. not (e.0 == k)) es) ≡ map_of es
map-remove es k h e = map-without es k ∙ restore_same (map_of es) k None (is_map es h) (get-map es k h ∙ e)

-- Counts --

-- the changes that the counts tell are those in the slots
pub counts_tell : (es : Entries) (q : ℕ) → unwrap_or (find nat_cmp q (counts_of es)) 0 ≡ changes_of es q
counts_tell [] q = refl
counts_tell (e ∷ es) q = by (eq_by_cmp nat_cmp q e.0) (counts_tell es q)
  where
    by : (b : Bool) → unwrap_or (find nat_cmp q (counts_of es)) 0 ≡ changes_of es q → unwrap_or (cond b (Some e.1.changes) (find nat_cmp q (counts_of es))) 0 ≡ changes_in (cond b (Some e.1) (find nat_cmp q es))
    by true more = refl
    by false more = more

changes_cond : (b : Bool) (s : Slot) (r : Option Slot) → changes_in (cond b (Some s) r) ≡ cond b s.changes (changes_in r)
changes_cond true s r = refl
changes_cond false s r = refl

-- a put entry gives its key its count
pub changes-put : (es : Entries) (k : ℕ) (s : Slot) (q : ℕ) → changes_of (put nat_cmp k s es) q ≡ (if q == k then s.changes else changes_of es q)
changes-put es k s q =
    ap changes_in (find-put nat_cmp nat_cmp_total q k s es)
    ∙ changes_cond (eq_by_cmp nat_cmp q k) s (find nat_cmp q es)
    ∙ ap (λ b. cond b s.changes (changes_of es q)) (same_test q k (k == q) refl ∙ turned k q)

changes_where : (b : Bool) (o : Option Slot) → changes_in (cond (not b) o None) ≡ cond b 0 (changes_in o)
changes_where true o = refl
changes_where false o = refl

none_left : (es : Entries) (k q : ℕ) (b : Bool) → (q == k) ≡ b → changes_of es k ≡ 0 → cond b 0 (changes_of es q) ≡ changes_of es q
none_left es k q true e z = sym (ap (changes_of es) (same_of q k e) ∙ z)
none_left es k q false e z = refl

-- without a key that has no change the counts are the same
pub changes-remove : (es : Entries) (k q : ℕ) → changes_of es k ≡ 0 → changes_of (filter (λ e. not (e.0 == k)) es) q ≡ changes_of es q
changes-remove es k q z = ap changes_in (find_filter es k q) ∙ changes_where (q == k) (find nat_cmp q es) ∙ none_left es k q (q == k) refl z

-- Entries made of pairs --

below-unchanged : (x : ℕ) (m : Map) → below_all nat_cmp x (unchanged m) ≡ below_all nat_cmp x m
below-unchanged x [] = refl
below-unchanged x (p ∷ ps) = ap (λ b. is_lt (nat_cmp x p.0) && b) (below-unchanged x ps)

sorted-unchanged : (m : Map) → is_sorted nat_cmp (unchanged m) ≡ is_sorted nat_cmp m
sorted-unchanged [] = refl
sorted-unchanged (p ∷ ps) = ap (λ b. b && is_sorted nat_cmp (unchanged ps)) (below-unchanged p.0 ps) ∙ ap (λ b. below_all nat_cmp p.0 ps && b) (sorted-unchanged ps)

-- entries made of a map are in order
pub in_order-unchanged : (m : Map) → IsMap m → IsInOrder (unchanged m)
in_order-unchanged m h = sorted-unchanged m ∙ h

-- their pairs are the map's
pub map-unchanged : (m : Map) → map_of (unchanged m) ≡ m
map-unchanged [] = refl
map-unchanged (p ∷ ps) = ap (λ (l : Map). p ∷ l) (map-unchanged ps)

no_changes_by : (b : Bool) (s : Slot) (r : Option Slot) → s.changes ≡ 0 → changes_in r ≡ 0 → changes_in (cond b (Some s) r) ≡ 0
no_changes_by true s r e f = e
no_changes_by false s r e f = f

-- none of them has a change
pub changes-unchanged : (m : Map) (q : ℕ) → changes_of (unchanged m) q ≡ 0
changes-unchanged [] q = refl
changes-unchanged (p ∷ ps) q = no_changes_by (eq_by_cmp nat_cmp q p.0) (record { value = Some p.1; changes = 0 }) (find nat_cmp q (unchanged ps)) refl (changes-unchanged ps q)
