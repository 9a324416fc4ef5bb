-- Laws of the index: what stands at each key after a change, and that the keys rise still.
use Rattle.std.specs.Prelude.{◌≡◌, ℕ, Bool, true, false, not, ◌==◌, cond, if◌then◌else◌, List, filter, IsTrue, T, Option, Some, None, refl}
use Rattle.std.specs.declared.cmp.Ordering.{Ordering}
use Rattle.std.specs.declared.cmp.Ordering.TheVariants.{Less, Equal, Greater}
use Rattle.std.specs.Ordering.{nat_cmp, eq_by_cmp, is_eq}
use Rattle.std.specs.Cmp.{nat_cmp_total, tied_itself}
use Rattle.std.specs.FinMap.{put, is_sorted}
use Rattle.std.specs.FinMap.Entries.{find-put, find-where_key, is_sorted-put, is_sorted-where_key}
use Rattle.std.proofs.lemmas.Bool.Decides.{nat_tests}
use Rattle.std.proofs.lemmas.Map.Lookups.{exact_unsigned}
use Rattle.std.proofs.Common.{sym, ◌∙◌, ap, arith}
use Rattle.kr_model.specs.Map.{Map, IsMap, get, set, without}

-- what ties is equal in the order
pub equal_of_test : (o : Ordering) → is_eq o ≡ true → o ≡ Equal
equal_of_test Less e = absurd (cc)
equal_of_test Equal e = refl
equal_of_test Greater e = absurd (cc)

-- a test that can't be true is false
pub apart : (b : Bool) → (b ≡ true → ⊥) → b ≡ false
apart true h = absurd (h refl)
apart false h = refl

-- two keys that differ don't tie
pub keys_apart : (q k : ℕ) → (q ≡ k → ⊥) → eq_by_cmp nat_cmp q k ≡ false
keys_apart q k h = apart (eq_by_cmp nat_cmp q k) (λ e. h (exact_unsigned q k (equal_of_test (nat_cmp q k) e)))

-- a key ties with itself
pub key_tie : (k : ℕ) → eq_by_cmp nat_cmp k k ≡ true
key_tie k = ap is_eq (tied_itself nat_cmp_total k)

-- two keys tie exactly where they are the same number
pub same_test : (q k : ℕ) (b : Bool) → (k == q) ≡ b → eq_by_cmp nat_cmp q k ≡ b
same_test q k true e = ap (λ x. eq_by_cmp nat_cmp q x) (let same : k ≡ q = grind (arith, nat_tests) in same) ∙ key_tie q
same_test q k false e = keys_apart q k (λ s. grind (arith, nat_tests))

-- after a key is set, it has the value, and every other key is as it was
pub get-set : (m : Map) (k v q : ℕ) → get (set m k v) q ≡ (if k == q then Some v else get m q)
get-set m k v q = find-put nat_cmp nat_cmp_total q k v m ∙ ap (λ b. cond b (Some v) (get m q)) (same_test q k (k == q) refl)

-- every other key is as it was
pub get-set_other : (m : Map) (k v q : ℕ) → (q ≡ k → ⊥) → get (set m k v) q ≡ get m q
get-set_other m k v q other = get-set m k v q ∙ ap (λ b. if b then Some v else get m q) (let e : (k == q) ≡ false = grind (arith, nat_tests) in e)

picked : (b : Bool) (o : Option ℕ) → cond (not b) o None ≡ (if b then None else o)
picked true o = refl
picked false o = refl

turned : (q k : ℕ) → (q == k) ≡ (k == q)
turned q k = grind (arith, nat_tests)

-- after a key is taken out, it is absent, and every other key is as it was
pub get-without : (m : Map) (k q : ℕ) → get (without m k) q ≡ (if k == q then None else get m q)
get-without m k q =
    find-where_key nat_cmp (λ x. not (x == k)) q (λ x e. ap (λ y. not (y == k)) (sym (exact_unsigned q x e))) m
    ∙ ap (λ b. cond (not b) (get m q) None) (turned q k)
    ∙ picked (k == q) (get m q)

-- Keys that rise --

-- a test that holds, in either form
pub t_of : (b : Bool) → IsTrue b → T b
t_of true h = tt
t_of false h = absurd (cc)

pub true_of : (b : Bool) → T b → IsTrue b
true_of true h = refl
true_of false h = absurd h

-- numbered entries still rise after one is put, or some are taken out
pub sorted_put : {X : Type 0} (k : ℕ) (v : X) (es : List (ℕ × X)) → IsTrue (is_sorted nat_cmp es) → IsTrue (is_sorted nat_cmp (put nat_cmp k v es))
sorted_put k v es h = true_of (is_sorted nat_cmp (put nat_cmp k v es)) (is_sorted-put nat_cmp nat_cmp_total k v es (t_of (is_sorted nat_cmp es) h))

pub sorted_where : {X : Type 0} (f : ℕ → Bool) (es : List (ℕ × X)) → IsTrue (is_sorted nat_cmp es) → IsTrue (is_sorted nat_cmp (filter (λ e. f e.0) es))
sorted_where f es h = true_of (is_sorted nat_cmp (filter (λ e. f e.0) es)) (is_sorted-where_key nat_cmp f es (t_of (is_sorted nat_cmp es) h))

-- a map in which a key is set, or taken out, is a map
pub IsMap-set : (m : Map) (k v : ℕ) → IsMap m → IsMap (set m k v)
IsMap-set m k v h = sorted_put k v m h

pub IsMap-without : (m : Map) (k : ℕ) → IsMap m → IsMap (without m k)
IsMap-without m k h = sorted_where (λ x. not (x == k)) m h
