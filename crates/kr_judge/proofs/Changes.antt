-- The opening map with changed keys: the value at each key, and what one more change makes of it.
use Rattle.std.proofs.Common.{◌≡◌, ℕ, Bool, true, false, cond, [], ◌∷◌, Option, Some, None, Result, Ok, Err, MatchResult, length, get_or, sym, ◌∙◌, ap, refl, arith}
use Rattle.std.specs.Prelude.{unwrap_or, nat_eq, ◌==◌}
use Rattle.std.specs.HashMap as hash
use Rattle.std.specs.HashMap.{HashMap, IsUnique}
use Rattle.std.specs.Map.{lookup, keys_of}
use Rattle.std.specs.List.{IsDistinct}
use Rattle.std.specs.List.Sorted.{IsSearchInRange, IsBinarySearchResult}
use Rattle.std.specs.Ordering.{nat_cmp}
use Rattle.std.specs.Cmp.{nat_cmp_total, nat_eq_equiv}
use Rattle.std.specs.FinMap.Entries.{same_entries}
use Rattle.std.proofs.lemmas.Bool.Decides.{nat_tests}
use Rattle.std.proofs.lemmas.Map.{lookup-none}
use Rattle.std.proofs.lemmas.Map.Entries.{none_past_head}
use Rattle.std.proofs.lemmas.Map.Keys.{IsDistinct-tail}
use Rattle.std.proofs.lemmas.Map.Lookups.{exact_unsigned}
use Rattle.kr_model.specs.Map.{Map, Changes, IsMap, get, restore}
use Rattle.kr_model.proofs.MapLaws.{t_of}
use Rattle.kr_model.proofs.SortedSearch.{comparisons_rise, find_place, find_none}
use Rattle.kr_model.proofs.UndoLaws.{get-restore, IsMap-restore, IsMap-restore_all}
use Rattle.kr_judge.specs.Changed.{changed_map}

turned : (q k : ℕ) (b : Bool) → nat_eq q k ≡ b → (k == q) ≡ b
turned q k true e = grind (arith, nat_tests)
turned q k false e = grind (arith, nat_tests)

same : (k q : ℕ) (b : Bool) → nat_eq k q ≡ b → (k == q) ≡ b
same k q true e = grind (arith, nat_tests)
same k q false e = grind (arith, nat_tests)

-- the value at a key: what the changes say of it, or else what the map says
pub get-changed : (m : Map) (cs : Changes) → IsDistinct nat_eq (keys_of cs) → (q : ℕ) → get (changed_map m cs) q ≡ unwrap_or (lookup (nat_eq q) cs) (get m q)
get-changed m [] apart q = refl
get-changed m (c ∷ cs) apart q =
    get-changed (restore m c.0 c.1) cs (IsDistinct-tail nat_eq c.0 (keys_of cs) apart) q
    ∙ ap (unwrap_or (lookup (nat_eq q) cs)) (get-restore m c.0 c.1 q)
    ∙ by (nat_eq q c.0) refl
  where
    by : (b : Bool) → nat_eq q c.0 ≡ b → unwrap_or (lookup (nat_eq q) cs) (cond (c.0 == q) c.1 (get m q)) ≡ unwrap_or (cond b (Some c.1) (lookup (nat_eq q) cs)) (get m q)
    by true e =
        ap (λ o. unwrap_or o (cond (c.0 == q) c.1 (get m q))) (lookup-none (nat_eq q) cs (none_past_head nat_eq_equiv q c cs apart e))
        ∙ ap (λ b. cond b c.1 (get m q)) (turned q c.0 true e)
    by false e = ap (λ b. unwrap_or (lookup (nat_eq q) cs) (cond b c.1 (get m q))) (turned q c.0 false e)

-- maps with the same value at each key are the same
pub same_map : (m n : Map) → IsMap m → IsMap n → ((q : ℕ) → get m q ≡ get n q) → m ≡ n
same_map m n g h is = same_entries nat_cmp nat_cmp_total exact_unsigned m n (t_of _ g) (t_of _ h) is

-- the map after one more change
pub changed_once : {S : Type 0} (m : Map) (old new : HashMap ℕ (Option ℕ) S) (k : ℕ) (v : Option ℕ) → IsMap m → IsUnique nat_eq old → IsUnique nat_eq new → ((q : ℕ) → hash.get nat_eq new q ≡ cond (nat_eq k q) (Some v) (hash.get nat_eq old q)) → changed_map m new.entries ≡ restore (changed_map m old.entries) k v
changed_once m old new k v h apart apart-new is =
    same_map _ _ (IsMap-restore_all m new.entries h) (IsMap-restore (changed_map m old.entries) k v (IsMap-restore_all m old.entries h)) each
  where
    by : (q : ℕ) (b : Bool) → nat_eq k q ≡ b → unwrap_or (cond b (Some v) (lookup (nat_eq q) old.entries)) (get m q) ≡ cond (k == q) v (get (changed_map m old.entries) q)
    by q true e = sym (ap (λ b. cond b v (get (changed_map m old.entries) q)) (same k q true e))
    by q false e = sym (get-changed m old.entries apart q) ∙ sym (ap (λ b. cond b v (get (changed_map m old.entries) q)) (same k q false e))

    each : (q : ℕ) → get (changed_map m new.entries) q ≡ get (restore (changed_map m old.entries) k v) q
    each q =
        get-changed m new.entries apart-new q
        ∙ ap (λ o. unwrap_or o (get m q)) (is q)
        ∙ by q (nat_eq k q) refl
        ∙ sym (get-restore (changed_map m old.entries) k v q)

-- what a binary search for a key ends at
pub searched : (m : Map) (k : ℕ) (r : Result ℕ ℕ) → IsMap m → IsSearchInRange r (length m) → IsBinarySearchResult (λ e. nat_cmp e.0 k) m r
    → MatchResult r (λ i. (d : ℕ × ℕ) → Some (get_or m i d).1 ≡ get m k) (λ _. None ≡ get m k)
searched m k (Ok i) h in_range here = λ d. sym (find_place nat_cmp nat_cmp_total k m i (t_of _ h) in_range here d)
searched m k (Err i) h in_range point = sym (find_none nat_cmp nat_cmp_total k m i (t_of _ h) in_range (point (comparisons_rise nat_cmp nat_cmp_total k m (t_of _ h))))

-- an answer that is shown isn't the same, and is the operation's own
pub own_shown : {X : Type 0} (same : Bool) (own x : X) → ◌≡◌ {A = Option X} (Some x) (cond same None (Some own)) → (same ≡ false) × (x ≡ own)
own_shown true own x e = absurd (cc)
own_shown false own x e = (refl, cc)
