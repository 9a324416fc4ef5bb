-- Numbers that are distinct, each one among some numbers, one after another.
use Rattle.std.proofs.Common.{◌≡◌, ◌≢◌, ℕ, ◌+◌, length, ne_eqb, Bool, true, false, List, [], ◌∷◌, ◌&&◌, ◌||◌, refl, sym, ap, ◌∙◌, arith}
use Rattle.std.specs.Prelude.{◌==◌, not}
use Rattle.std.specs.declared.cmp.Ordering.{Ordering}
use Rattle.std.specs.declared.cmp.Ordering.TheVariants.{Less, Equal, Greater}
use Rattle.std.specs.Ordering.{nat_cmp}
use Rattle.std.specs.FinMap.Entries.{by_order}
use Rattle.std.proofs.lemmas.Bool.Decides.{nat_tests}
use Rattle.std.proofs.lemmas.Map.Lookups.{exact_unsigned}
use Rattle.kr_model.specs.Locks.{add_once}
use Rattle.kr_model.proofs.Actives.{any_add_once}
use Rattle.kr_trace_lines.specs.Parts.{has, are_distinct, are_in, is_order_of, AreAmong}

-- Whether no number is in a list.
abbrev pub none_in : List ℕ → List ℕ → Bool
none_in us [] = true
none_in us (t ∷ ts) = not (has us t) && none_in us ts

-- Whether the numbers are among some, distinct, and none of those before.
abbrev pub are_fresh : List ℕ → List ℕ → List ℕ → Bool
are_fresh cs us ts = are_in cs ts && (are_distinct ts && none_in us ts)

and_true : (b : Bool) → b ≡ (b && true)
and_true true = refl
and_true false = refl

and_false : (b : Bool) → (b && false) ≡ false
and_false true = refl
and_false false = refl

none_in_nothing : (ts : List ℕ) → none_in [] ts ≡ true
none_in_nothing [] = refl
none_in_nothing (t ∷ ts) = none_in_nothing ts

-- At first there are none before.
pub fresh-begin : (cs ts : List ℕ) → (are_in cs ts && are_distinct ts) ≡ are_fresh cs [] ts
fresh-begin cs ts = ap (λ b. are_in cs ts && b) (and_true (are_distinct ts) ∙ ap (λ b. are_distinct ts && b) (sym (none_in_nothing ts)))

same_test : (t x : ℕ) → (t == x) ≡ (x == t)
same_test t x = grind (arith, nat_tests)

part : (s h n r : Bool) → (not (s || h) && (not r && n)) ≡ (not (s || r) && (not h && n))
part true h n r = refl
part false true n true = refl
part false true n false = refl
part false false n true = refl
part false false n false = refl

-- None is a number or one of the others exactly where the number isn't among them and none is one of the others.
none_in_more : (us : List ℕ) (t : ℕ) (ts : List ℕ) → none_in (add_once t us) ts ≡ (not (has ts t) && none_in us ts)
none_in_more us t [] = refl
none_in_more us t (x ∷ xs) =
    ap (λ b. not b && none_in (add_once t us) xs) (any_add_once (λ u. u == x) t us)
    ∙ ap (λ b. not ((t == x) || has us x) && b) (none_in_more us t xs)
    ∙ part (t == x) (has us x) (none_in us xs) (has xs t)
    ∙ ap (λ b. not (b || has xs t) && (not (has us x) && none_in us xs)) (same_test t x)

shift : (a d n r : Bool) → (a && ((not r && d) && n)) ≡ (a && (d && (not r && n)))
shift false d n r = refl
shift true false n true = refl
shift true false n false = refl
shift true true n true = refl
shift true true n false = refl

-- One more that is among them and not before.
pub fresh-more : (cs us : List ℕ) (t : ℕ) (ts : List ℕ) → has cs t ≡ true → has us t ≡ false → are_fresh cs us (t ∷ ts) ≡ are_fresh cs (add_once t us) ts
fresh-more cs us t ts h k =
    ap (λ b. (b && are_in cs ts) && ((not (has ts t) && are_distinct ts) && (not (has us t) && none_in us ts))) h
    ∙ ap (λ b. are_in cs ts && ((not (has ts t) && are_distinct ts) && (not b && none_in us ts))) k
    ∙ shift (are_in cs ts) (are_distinct ts) (none_in us ts) (has ts t)
    ∙ ap (λ b. are_in cs ts && (are_distinct ts && b)) (sym (none_in_more us t ts))

-- One that isn't among them.
pub fresh-other : (cs us : List ℕ) (t : ℕ) (ts : List ℕ) → has cs t ≡ false → are_fresh cs us (t ∷ ts) ≡ false
fresh-other cs us t ts h = ap (λ b. (b && are_in cs ts) && (are_distinct (t ∷ ts) && none_in us (t ∷ ts))) h

-- One that came before.
pub fresh-again : (cs us : List ℕ) (t : ℕ) (ts : List ℕ) → has us t ≡ true → are_fresh cs us (t ∷ ts) ≡ false
fresh-again cs us t ts h =
    ap (λ b. are_in cs (t ∷ ts) && (are_distinct (t ∷ ts) && (not b && none_in us ts))) h
    ∙ ap (λ b. are_in cs (t ∷ ts) && b) (and_false (are_distinct (t ∷ ts)))
    ∙ and_false (are_in cs (t ∷ ts))

-- What is kept of ended transactions --

or_right : (a b : Bool) → b ≡ true → (a || b) ≡ true
or_right true b h = refl
or_right false b h = h

either : (a b c : Bool) → (b ≡ true → c ≡ true) → (a || b) ≡ true → (a || c) ≡ true
either true b c f h = refl
either false b c f h = f h

-- More of the one list.
pub among-more : (us vs : List ℕ) (t : ℕ) → AreAmong us vs → AreAmong us (add_once t vs)
among-more us vs t h x k = any_add_once (λ u. u == x) t vs ∙ or_right (t == x) (has vs x) (h x k)

-- One more in both lists.
pub among-both : (us vs : List ℕ) (t : ℕ) → AreAmong us vs → AreAmong (add_once t us) (add_once t vs)
among-both us vs t h x k =
    any_add_once (λ u. u == x) t vs
    ∙ either (t == x) (has us x) (has vs x) (h x) (sym (any_add_once (λ u. u == x) t us) ∙ k)

not_there : (us vs : List ℕ) (t : ℕ) → AreAmong us vs → has vs t ≡ false → (b : Bool) → has us t ≡ b → has us t ≡ false
not_there us vs t h k true e = absurd (no (sym k ∙ h t e))
  where
    no : false ≡ true → ⊥
    no e = cc
not_there us vs t h k false e = e

-- What isn't in the longer list isn't in the shorter one.
pub among-not : (us vs : List ℕ) (t : ℕ) → AreAmong us vs → has vs t ≡ false → has us t ≡ false
among-not us vs t h k = not_there us vs t h k (has us t) refl

or_false : (a b : Bool) → (a || b) ≡ false → (a ≡ false) × (b ≡ false)
or_false true b h = cc
or_false false b h = (refl, h)

-- One more number, by how it compares with the first.
longer : (t u : ℕ) (us : List ℕ) (o : Ordering) → nat_cmp t u ≡ o → (u == t) ≡ false → length (add_once t us) ≡ length us + 1
    → length (by_order o (t ∷ u ∷ us) (u ∷ us) (u ∷ add_once t us)) ≡ length (u ∷ us) + 1
longer t u us Less e differ more = omega arith
longer t u us Equal e differ more = absurd (let same = exact_unsigned t u e in grind (arith, nat_tests))
longer t u us Greater e differ more = omega arith

-- A number that isn't there makes the list longer by one.
pub length_add_once : (t : ℕ) (us : List ℕ) → has us t ≡ false → length (add_once t us) ≡ length us + 1
length_add_once t [] h = refl
length_add_once t (u ∷ us) h =
    let parts = or_false (u == t) (has us t) h in
    longer t u us (nat_cmp t u) refl parts.0 (length_add_once t us parts.1)

-- What is known of the committed among the ended, after one more has committed.
pub commit_kept : (n : ℕ) (cs es : List ℕ) (t : ℕ) → n ≡ length cs → AreAmong cs es → has es t ≡ false
    → (n + 1 ≡ length (add_once t cs)) × AreAmong (add_once t cs) (add_once t es)
commit_kept n cs es t e h k =
    let more = length_add_once t cs (among-not cs es t h k) in
    (omega (arith, e, more), among-both cs es t h)

-- The same after one more has ended without a commit.
pub end_kept : (n : ℕ) (cs es : List ℕ) (t : ℕ) → n ≡ length cs → AreAmong cs es → (n ≡ length cs) × AreAmong cs (add_once t es)
end_kept n cs es t e h = (e, among-more cs es t h)

-- Orders --

-- An order with more or fewer numbers.
pub order_other : (cs ts : List ℕ) → length ts ≢ length cs → is_order_of cs ts ≡ false
order_other cs ts h =
    let differ : (length ts == length cs) ≡ false = ne_eqb (length ts) (length cs) h in
    ap (λ b. (are_in cs ts && are_distinct ts) && b) differ ∙ and_false (are_in cs ts && are_distinct ts)

-- An order with another number, or one twice.
pub order_wrong : (cs ts : List ℕ) → (are_in cs ts && are_distinct ts) ≡ false → is_order_of cs ts ≡ false
order_wrong cs ts h = ap (λ b. b && (length ts == length cs)) h

-- An order that has each number once.
pub order_right : (cs ts : List ℕ) → (are_in cs ts && are_distinct ts) ≡ true → length ts ≡ length cs → is_order_of cs ts ≡ true
order_right cs ts h e =
    let same : (length ts == length cs) ≡ true = grind (arith, nat_tests) in
    ap (λ b. b && (length ts == length cs)) h ∙ same
