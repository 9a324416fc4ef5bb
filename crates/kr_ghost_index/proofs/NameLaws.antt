-- Which name comes next, and what the first entry from a key on says of the key.
use Rattle.std.specs.Prelude.{◌≡◌, ℕ, suc, ◌<◌, Bool, true, false, not, ◌==◌, ◌&&◌, cond, nat_le, T, Option, Some, None, List, [], ◌∷◌, filter, unwrap_or, refl}
use Rattle.std.specs.Ordering.{nat_cmp, is_le, is_lt}
use Rattle.std.specs.FinMap.{find, is_sorted}
use Rattle.std.specs.FinMap.Entries.{below_all, by_order}
use Rattle.std.specs.declared.cmp.Ordering.TheVariants.{Less, Greater}
use Rattle.std.proofs.lemmas.Bool.Decides.{nat_tests}
use Rattle.std.proofs.Common.{sym, ◌∙◌, ap, arith}
use Rattle.kr_model.specs.declared.Name.TheVariants.{Key}
use Rattle.kr_model.specs.Map.{Map, at, set}
use Rattle.kr_model.proofs.Actives.{tied, untied}
use Rattle.kr_model.proofs.MapLaws.{same_test, key_tie, t_of}
use Rattle.kr_model.proofs.Numbers.{Above}
use Rattle.kr_model.proofs.Trees.{both, first, second, not_found}
use Rattle.kr_ghost.specs.State.{named}
use Rattle.kr_ghost_index.specs.declared.slots.Slot.{Slot}
use Rattle.kr_ghost_index.specs.Slots.{Entries, IsInOrder, with_value, with_ghost, map_of, ghosts_of, first_from, name_of}
use Rattle.kr_ghost_index.proofs.GhostLaws.{above_ghosts}

-- All names as a map --

-- the keys of the entries, each with its value, or 0 for a ghost
abbrev names : Entries → Map
names [] = []
names (e ∷ es) = (e.0, unwrap_or e.1.value 0) ∷ names es

below_names : (x : ℕ) (es : Entries) → T (below_all nat_cmp x es) → T (below_all nat_cmp x (names es))
below_names x [] h = tt
below_names x (e ∷ es) h = both _ _ (first _ _ h) (below_names x es (second _ _ h))

lower : (k x : ℕ) → T (is_lt (nat_cmp k x)) → nat_cmp k x ≡ Less
lower k x h = grind (arith, nat_tests)

higher : (k x : ℕ) → k < x → nat_cmp x k ≡ Greater
higher k x lt = grind (arith, nat_tests)

-- a key above the first goes behind it
set_behind : (k v g : ℕ) (m : Map) → k < g → set ((k, v) ∷ m) g 0 ≡ (k, v) ∷ set m g 0
set_behind k v g m lt = ap (λ o. by_order o ((g, 0) ∷ (k, v) ∷ m) ((k, 0) ∷ m) ((k, v) ∷ set m g 0)) (higher k g lt)

-- the first present key stays the first of the names
named_first : (k v : ℕ) (m : Map) (gs : List ℕ) → Above k gs → named ((k, v) ∷ m) gs ≡ (k, v) ∷ named m gs
named_first k v m [] a = refl
named_first k v m (g ∷ gs) a = ap (λ l. set l g 0) (named_first k v m gs a.1) ∙ set_behind k v g (named m gs) a.0

-- a key below all goes to the front
set_front : (k : ℕ) (m : Map) → T (below_all nat_cmp k m) → set m k 0 ≡ (k, 0) ∷ m
set_front k [] h = refl
set_front k (e ∷ m) h = ap (λ o. by_order o ((k, 0) ∷ e ∷ m) ((e.0, 0) ∷ m) (e ∷ set m k 0)) (lower k e.0 (first _ _ h))

-- the names of the entries are the present keys and the ghosts
named_names : (es : Entries) → T (is_sorted nat_cmp es) → named (map_of es) (ghosts_of es) ≡ names es
named_names [] h = refl
named_names (e ∷ es) h = by e.1.value (named_names es (second _ _ h))
  where
    by : (o : Option ℕ) → named (map_of es) (ghosts_of es) ≡ names es → named (with_value e.0 o (map_of es)) (with_ghost e.0 o (ghosts_of es)) ≡ (e.0, unwrap_or o 0) ∷ names es
    by None more = ap (λ l. set l e.0 0) more ∙ set_front e.0 (names es) (below_names e.0 es (first _ _ h))
    by (Some v) more = named_first e.0 v (map_of es) (ghosts_of es) (above_ghosts e.0 es (first _ _ h)) ∙ ap (λ (l : Map). (e.0, v) ∷ l) more

-- The first entry from a key on --

at_names : (es : Entries) (c : ℕ) → at (names es) c ≡ name_of (first_from es c)
at_names [] c = refl
at_names (e ∷ es) c = by (nat_le c e.0) (at_names es c)
  where
    by : (b : Bool) → at (names es) c ≡ name_of (first_from es c) → cond b (Key e.0) (at (names es) c) ≡ name_of (cond b (Some e) (first_from es c))
    by true more = refl
    by false more = more

-- the least name not below a key is that of the first entry from there on
pub name_at : (es : Entries) (c : ℕ) → IsInOrder es → at (named (map_of es) (ghosts_of es)) c ≡ name_of (first_from es c)
name_at es c h = ap (λ m. at m c) (named_names es (t_of _ h)) ∙ at_names es c

-- the slot of a key, by the first entry from the key on
abbrev pub slot_by : ℕ → Option (ℕ × Slot) → Option Slot
slot_by k None = None
slot_by k (Some e) = cond (e.0 == k) (Some e.1) None

-- it is that key's entry, or another's
pub slot_here : (k f : ℕ) (s : Slot) → f ≡ k → Some s ≡ slot_by k (Some (f, s))
slot_here k f s e = ap (λ b. cond b (Some s) None) (sym (ap (λ x. x == k) e ∙ tied k))

pub slot_elsewhere : (k f : ℕ) (s : Slot) → (f ≡ k → ⊥) → None ≡ slot_by k (Some (f, s))
slot_elsewhere k f s ne = ap (λ b. cond b (Some s) None) (sym (untied f k ne))

passed : (k x : ℕ) → nat_le k x ≡ false → (x == k) ≡ false
passed k x l = grind (arith, nat_tests)

before : (k x : ℕ) → nat_le k x ≡ true → (x == k) ≡ false → nat_cmp k x ≡ Less
before k x l e = grind (arith, nat_tests)

slot_from : (es : Entries) (k : ℕ) → T (is_sorted nat_cmp es) → find nat_cmp k es ≡ slot_by k (first_from es k)
slot_from [] k h = refl
slot_from (e ∷ es) k h = by (nat_le k e.0) refl (e.0 == k) refl (slot_from es k (second _ _ h))
  where
    tie : (b : Bool) → (e.0 == k) ≡ b → find nat_cmp k (e ∷ es) ≡ cond b (Some e.1) (find nat_cmp k es)
    tie b t = ap (λ b. cond b (Some e.1) (find nat_cmp k es)) (same_test k e.0 b t)

    by : (l : Bool) → nat_le k e.0 ≡ l → (b : Bool) → (e.0 == k) ≡ b → find nat_cmp k es ≡ slot_by k (first_from es k)
        → find nat_cmp k (e ∷ es) ≡ slot_by k (cond l (Some e) (first_from es k))
    by true l true t more = tie true t ∙ ap (λ b. cond b (Some e.1) None) (sym t)
    by true l false t more = tie false t ∙ not_found k e.0 es (before k e.0 l t) (first _ _ h) ∙ ap (λ b. cond b (Some e.1) None) (sym t)
    by false l b t more = tie false (passed k e.0 l) ∙ more

-- a key has the slot of the first entry from it on, if that entry is its own
pub slot_first : (es : Entries) (k : ℕ) → IsInOrder es → find nat_cmp k es ≡ slot_by k (first_from es k)
slot_first es k h = slot_from es k (t_of _ h)

not_below : (es : Entries) (c : ℕ) (e : ℕ × Slot) → first_from es c ≡ Some e → nat_le c e.0 ≡ true
not_below [] c e is = absurd (cc)
not_below (f ∷ es) c e is = by (nat_le c f.0) refl is (not_below es c e)
  where
    by : (l : Bool) → nat_le c f.0 ≡ l → cond l (Some f) (first_from es c) ≡ Some e → (first_from es c ≡ Some e → nat_le c e.0 ≡ true) → nat_le c e.0 ≡ true
    by true l is more = let same : f ≡ e = cc in ap (λ (x : ℕ × Slot). nat_le c x.0) (sym same) ∙ l
    by false l is more = more is

apart : (c x k : ℕ) → nat_le c x ≡ false → nat_le c k ≡ true → (x == k) ≡ false
apart c x k l m = grind (arith, nat_tests)

-- the first entry from a key on is the entry of its key
pub first_is : (es : Entries) (c : ℕ) (e : ℕ × Slot) → first_from es c ≡ Some e → find nat_cmp e.0 es ≡ Some e.1
first_is [] c e is = absurd (cc)
first_is (f ∷ es) c e is = by (nat_le c f.0) refl is (first_is es c e)
  where
    same : f ≡ e → find nat_cmp e.0 (f ∷ es) ≡ Some e.1
    same s = ap (λ (x : ℕ × Slot). find nat_cmp x.0 (f ∷ es)) (sym s) ∙ ap (λ b. cond b (Some f.1) (find nat_cmp f.0 es)) (key_tie f.0) ∙ ap (λ (x : ℕ × Slot). Some x.1) s

    by : (l : Bool) → nat_le c f.0 ≡ l → cond l (Some f) (first_from es c) ≡ Some e → (first_from es c ≡ Some e → find nat_cmp e.0 es ≡ Some e.1) → find nat_cmp e.0 (f ∷ es) ≡ Some e.1
    by true l is more = same (cc)
    by false l is more = ap (λ b. cond b (Some f.1) (find nat_cmp e.0 es)) (same_test e.0 f.0 false (apart c f.0 e.0 l (not_below es c e is))) ∙ more is

-- without a key, the first entry from it on is the one past it
pub first_left : (es : Entries) (k : ℕ) → first_from (filter (λ e. not (e.0 == k)) es) k ≡ first_from es (suc k)
first_left [] k = refl
first_left (e ∷ es) k = by (e.0 == k) refl (nat_le k e.0) refl (nat_le (suc k) e.0) refl (first_left es k)
  where
    left : Entries
    left = filter (λ e. not (e.0 == k)) es

    by : (b : Bool) → (e.0 == k) ≡ b → (l : Bool) → nat_le k e.0 ≡ l → (m : Bool) → nat_le (suc k) e.0 ≡ m → first_from left k ≡ first_from es (suc k)
        → first_from (cond (not b) (e ∷ left) left) k ≡ cond m (Some e) (first_from es (suc k))
    by true t l p true q more = absurd (grind (arith, nat_tests))
    by true t l p false q more = more
    by false t true p true q more = ap (λ c. cond c (Some e) (first_from left k)) p
    by false t true p false q more = absurd (grind (arith, nat_tests))
    by false t false p true q more = absurd (grind (arith, nat_tests))
    by false t false p false q more = ap (λ c. cond c (Some e) (first_from left k)) p ∙ more

-- Walks --

-- the first of entries
abbrev pub head_of : Entries → Option (ℕ × Slot)
head_of [] = None
head_of (e ∷ es) = Some e

-- a walk through the entries of keys from c on finds the first of them
walk_first : (test : ℕ → Bool) (c : ℕ) → ((x : ℕ) → test x ≡ nat_le c x) → (es : Entries) → first_from es c ≡ head_of (filter (λ e. test e.0) es)
walk_first test c same [] = refl
walk_first test c same (e ∷ es) = by (test e.0) (nat_le c e.0) (same e.0) (walk_first test c same es)
  where
    by : (a b : Bool) → a ≡ b → first_from es c ≡ head_of (filter (λ e. test e.0) es) → cond b (Some e) (first_from es c) ≡ head_of (cond a (e ∷ filter (λ e. test e.0) es) (filter (λ e. test e.0) es))
    by true true s more = refl
    by false false s more = more
    by true false s more = absurd (cc)
    by false true s more = absurd (cc)

le_test : (c x : ℕ) → (is_le (nat_cmp c x) && true) ≡ nat_le c x
le_test c x = grind (arith, nat_tests)

lt_test : (k x : ℕ) → (is_lt (nat_cmp k x) && true) ≡ nat_le (suc k) x
lt_test k x = grind (arith, nat_tests)

-- so does one from a key on
pub walk_from : (es : Entries) (c : ℕ) → first_from es c ≡ head_of (filter (λ e. is_le (nat_cmp c e.0) && true) es)
walk_from es c = walk_first (λ x. is_le (nat_cmp c x) && true) c (le_test c) es

-- and one past a key
pub walk_past : (es : Entries) (k : ℕ) → first_from es (suc k) ≡ head_of (filter (λ e. is_lt (nat_cmp k e.0) && true) es)
walk_past es k = walk_first (λ x. is_lt (nat_cmp k x) && true) (suc k) (lt_test k) es
