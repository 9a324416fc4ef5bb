-- The ghosts among the entries of an index, and what an edit does to them.
use Rattle.std.specs.Prelude.{◌≡◌, ℕ, ◌+◌, ◌<◌, zero, suc, slice_index, Bool, true, false, not, ◌==◌, ◌&&◌, ◌||◌, cond, T, Option, Some, None, is_none, List, [], ◌∷◌, filter, refl}
use Rattle.std.specs.Ordering.{nat_cmp, eq_by_cmp}
use Rattle.std.specs.Cmp.{nat_cmp_total}
use Rattle.std.specs.FinMap.{find, put, is_sorted}
use Rattle.std.specs.FinMap.Entries.{below_all, find-put}
use Rattle.std.specs.List.Sorted.{IsStrictlyIncreasing}
use Rattle.std.proofs.Common.{sym, ◌∙◌, ap, subst, arith}
use Rattle.kr_model.specs.Map.{Map, get}
use Rattle.kr_model.proofs.Actives.{any_add_once}
use Rattle.kr_model.proofs.MapLaws.{same_test, t_of}
use Rattle.kr_model.proofs.Numbers.{Above, Rising, rising_add}
use Rattle.kr_model.proofs.RisingNumbers.{has, has-filter, rising_filter, same_rising}
use Rattle.kr_model.proofs.Trees.{first, second}
use Rattle.kr_ghost.specs.State.{among, ghosts_with}
use Rattle.kr_ghost.proofs.Names.{same_of}
use Rattle.kr_ghost_index.specs.declared.slots.Slot.{Slot}
use Rattle.kr_ghost_index.specs.Slots.{Entries, IsInOrder, with_ghost, map_of, ghosts_of, value_in, is_ghost_in, unchanged}
use Rattle.kr_ghost_index.proofs.SlotLaws.{turned, less_of, missed_tied, get-map, in_order-put}

-- Ghosts rise --

above_with : (x k : ℕ) (o : Option ℕ) (gs : List ℕ) → x < k → Above x gs → Above x (with_ghost k o gs)
above_with x k None gs lt a = (lt, a)
above_with x k (Some v) gs lt a = a

-- they are above what is below all entries
pub above_ghosts : (x : ℕ) (es : Entries) → T (below_all nat_cmp x es) → Above x (ghosts_of es)
above_ghosts x [] h = tt
above_ghosts x (e ∷ es) h = above_with x e.0 e.1.value (ghosts_of es) (less_of x e.0 (first _ _ h)) (above_ghosts x es (second _ _ h))

rising_with : (k : ℕ) (o : Option ℕ) (gs : List ℕ) → Above k gs → Rising gs → Rising (with_ghost k o gs)
rising_with k None gs a r = (a, r)
rising_with k (Some v) gs a r = r

-- each is below all after it
rising_ghosts : (es : Entries) → T (is_sorted nat_cmp es) → Rising (ghosts_of es)
rising_ghosts [] h = tt
rising_ghosts (e ∷ es) h = rising_with e.0 e.1.value (ghosts_of es) (above_ghosts e.0 es (first _ _ h)) (rising_ghosts es (second _ _ h))

next_place : (k : ℕ) → suc (k + 1) ≡ suc k + 1
next_place k = omega arith

-- numbers that rise are each below the next
increasing : (xs : List ℕ) → Rising xs → IsStrictlyIncreasing xs
increasing [] r k le = absurd (omega arith)
increasing (x ∷ []) r k le = absurd (omega arith)
increasing (x ∷ y ∷ ys) r zero le = r.0.0
increasing (x ∷ y ∷ ys) r (suc k) le = subst (λ i. slice_index (y ∷ ys) k < slice_index (x ∷ y ∷ ys) i) (next_place k) (increasing (y ∷ ys) r.1 k (omega arith))

-- each ghost is below the next
pub ghosts_rise : (es : Entries) → IsInOrder es → IsStrictlyIncreasing (ghosts_of es)
ghosts_rise es h = increasing (ghosts_of es) (rising_ghosts es (t_of _ h))

-- Which keys are ghosts --

among_ghosts : (es : Entries) (q : ℕ) → T (is_sorted nat_cmp es) → among (ghosts_of es) q ≡ is_ghost_in (find nat_cmp q es)
among_ghosts [] q h = refl
among_ghosts (e ∷ es) q h = by (eq_by_cmp nat_cmp q e.0) refl e.1.value refl (among_ghosts es q (second _ _ h))
  where
    by : (b : Bool) → eq_by_cmp nat_cmp q e.0 ≡ b → (o : Option ℕ) → e.1.value ≡ o → among (ghosts_of es) q ≡ is_ghost_in (find nat_cmp q es)
        → among (with_ghost e.0 o (ghosts_of es)) q ≡ is_ghost_in (cond b (Some e.1) (find nat_cmp q es))
    by true t None is more = ap (λ b. b || among (ghosts_of es) q) (sym (same_test q e.0 (e.0 == q) refl) ∙ t) ∙ sym (ap is_none is)
    by false t None is more = ap (λ b. b || among (ghosts_of es) q) (sym (same_test q e.0 (e.0 == q) refl) ∙ t) ∙ more
    by true t (Some v) is more = more ∙ ap is_ghost_in (missed_tied q e.0 es t (first _ _ h)) ∙ sym (ap is_none is)
    by false t (Some v) is more = more

-- whether a key is a ghost, by its slot
pub among-ghosts : (es : Entries) (q : ℕ) → IsInOrder es → among (ghosts_of es) q ≡ is_ghost_in (find nat_cmp q es)
among-ghosts es q h = among_ghosts es q (t_of _ h)

no_value_in : (o : Option Slot) → is_ghost_in o ≡ true → value_in o ≡ None
no_value_in None e = absurd (cc)
no_value_in (Some s) e = by s.value e
  where
    by : (v : Option ℕ) → is_none v ≡ true → v ≡ None
    by None e = refl
    by (Some v) e = absurd (cc)

-- a ghost has a slot without a value
pub ghost_has_none : (es : Entries) (k : ℕ) → IsInOrder es → among (ghosts_of es) k ≡ true → value_in (find nat_cmp k es) ≡ None
ghost_has_none es k h e = no_value_in (find nat_cmp k es) (sym (among-ghosts es k h) ∙ e)

-- so it isn't present
pub ghost_is_absent : (es : Entries) (k : ℕ) → IsInOrder es → among (ghosts_of es) k ≡ true → get (map_of es) k ≡ None
ghost_is_absent es k h e = get-map es k h ∙ ghost_has_none es k h e

-- Edits --

-- the two words for a number of a list are one
has_among : (gs : List ℕ) (u : ℕ) → has gs u ≡ among gs u
has_among [] u = refl
has_among (g ∷ gs) u = ap (λ b. b || has gs u) (turned u g) ∙ ap (λ b. (g == u) || b) (has_among gs u)

or_cond : (a b : Bool) → (a || b) ≡ cond a true b
or_cond true b = refl
or_cond false b = refl

and_cond : (a b : Bool) → (b && not a) ≡ cond a false b
and_cond true true = refl
and_cond true false = refl
and_cond false true = refl
and_cond false false = refl

-- whether a key is a ghost after another was edited
among_edit : (gs : List ℕ) (k : ℕ) (o : Option ℕ) (u : ℕ) → among (ghosts_with gs k o) u ≡ cond (k == u) (is_none o) (among gs u)
among_edit gs k None u = any_add_once (λ g. g == u) k gs ∙ or_cond (k == u) (among gs u)
among_edit gs k (Some v) u =
    sym (has_among (filter (λ g. not (g == k)) gs) u)
    ∙ has-filter (λ g. not (g == k)) gs u
    ∙ and_cond (u == k) (has gs u)
    ∙ ap (λ b. cond b false (has gs u)) (turned u k)
    ∙ ap (λ b. cond (k == u) false b) (has_among gs u)

-- ghosts rise after an edit
rising_edit : (gs : List ℕ) (k : ℕ) (o : Option ℕ) → Rising gs → Rising (ghosts_with gs k o)
rising_edit gs k None r = rising_add k gs r
rising_edit gs k (Some v) r = rising_filter (λ g. not (g == k)) gs r

ghost_cond : (b : Bool) (s : Slot) (r : Option Slot) → is_ghost_in (cond b (Some s) r) ≡ cond b (is_none s.value) (is_ghost_in r)
ghost_cond true s r = refl
ghost_cond false s r = refl

-- an entry that is put makes its key a ghost, or none
pub ghosts-put : (es : Entries) (k : ℕ) (s : Slot) → IsInOrder es → ghosts_of (put nat_cmp k s es) ≡ ghosts_with (ghosts_of es) k s.value
ghosts-put es k s h =
    let sorted = in_order-put es k s h in
    same_rising (ghosts_of (put nat_cmp k s es)) (ghosts_with (ghosts_of es) k s.value) (rising_ghosts (put nat_cmp k s es) (t_of _ sorted)) (rising_edit (ghosts_of es) k s.value (rising_ghosts es (t_of _ h))) (λ u.
    has_among (ghosts_of (put nat_cmp k s es)) u
    ∙ among-ghosts (put nat_cmp k s es) u sorted
    ∙ ap is_ghost_in (find-put nat_cmp nat_cmp_total u k s es)
    ∙ ghost_cond (eq_by_cmp nat_cmp u k) s (find nat_cmp u es)
    ∙ ap (λ b. cond b (is_none s.value) (is_ghost_in (find nat_cmp u es))) (same_test u k (k == u) refl)
    ∙ ap (λ b. cond (k == u) (is_none s.value) b) (sym (among-ghosts es u h))
    ∙ sym (among_edit (ghosts_of es) k s.value u)
    ∙ sym (has_among (ghosts_with (ghosts_of es) k s.value) u))

with_same : (gs : List ℕ) (k u : ℕ) (o : Option ℕ) (b : Bool) → (k == u) ≡ b → among gs k ≡ is_none o → cond b (is_none o) (among gs u) ≡ among gs u
with_same gs k u o true t e = sym (ap (among gs) (sym (same_of k u t)) ∙ e)
with_same gs k u o false t e = refl

-- one that is put over a slot, with the value that it has, leaves the ghosts
pub ghosts-put_same : (es : Entries) (k : ℕ) (s : Slot) → IsInOrder es → among (ghosts_of es) k ≡ is_none s.value → ghosts_of (put nat_cmp k s es) ≡ ghosts_of es
ghosts-put_same es k s h e =
    let rise = rising_ghosts es (t_of _ h) in
    ghosts-put es k s h ∙ same_rising (ghosts_with (ghosts_of es) k s.value) (ghosts_of es) (rising_edit (ghosts_of es) k s.value rise) rise (λ u.
    has_among (ghosts_with (ghosts_of es) k s.value) u
    ∙ among_edit (ghosts_of es) k s.value u
    ∙ with_same (ghosts_of es) k u s.value (k == u) refl e
    ∙ sym (has_among (ghosts_of es) u))

-- Without a key --

kept_ghost : (x k : ℕ) (o : Option ℕ) (b : Bool) (s : Slot) (es fs : Entries) → not (x == k) ≡ b → s.value ≡ o → ghosts_of fs ≡ filter (λ g. not (g == k)) (ghosts_of es)
    → ghosts_of (cond b ((x, s) ∷ fs) fs) ≡ filter (λ g. not (g == k)) (with_ghost x o (ghosts_of es))
kept_ghost x k None true s es fs e is more =
    ap (λ o. with_ghost x o (ghosts_of fs)) is ∙ ap (λ (l : List ℕ). x ∷ l) more ∙ sym (ap (λ b. cond b (x ∷ filter (λ g. not (g == k)) (ghosts_of es)) (filter (λ g. not (g == k)) (ghosts_of es))) e)
kept_ghost x k None false s es fs e is more = more ∙ sym (ap (λ b. cond b (x ∷ filter (λ g. not (g == k)) (ghosts_of es)) (filter (λ g. not (g == k)) (ghosts_of es))) e)
kept_ghost x k (Some v) true s es fs e is more = ap (λ o. with_ghost x o (ghosts_of fs)) is ∙ more
kept_ghost x k (Some v) false s es fs e is more = more

-- without a key's entry the key isn't a ghost
pub ghosts-remove : (es : Entries) (k : ℕ) → ghosts_of (filter (λ e. not (e.0 == k)) es) ≡ filter (λ g. not (g == k)) (ghosts_of es)
ghosts-remove [] k = refl
ghosts-remove (e ∷ es) k = kept_ghost e.0 k e.1.value (not (e.0 == k)) e.1 es (filter (λ e. not (e.0 == k)) es) refl refl (ghosts-remove es k)

-- entries made of pairs have no ghosts
pub ghosts-unchanged : (m : Map) → ghosts_of (unchanged m) ≡ []
ghosts-unchanged [] = refl
ghosts-unchanged (p ∷ ps) = ghosts-unchanged ps
