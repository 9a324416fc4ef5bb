-- Whole operations on a map: how a range of it compares with rows, and what a delete leaves.
use Rattle.std.specs.Prelude.{◌≡◌, ℕ, zero, suc, ◌<◌, ◌≤◌, Bool, true, false, not, ◌&&◌, ◌==◌, cond, nat_le, List, [], ◌∷◌, Option, Some, None, filter, refl, T, length, get_or, drop}
use Rattle.std.specs.Ordering.{nat_cmp, is_lt, is_le}
use Rattle.std.specs.declared.cmp.Ordering.{Ordering}
use Rattle.std.specs.declared.cmp.Ordering.TheVariants.{Less, Equal, Greater}
use Rattle.std.specs.FinMap.Entries.{below_all}
use Rattle.std.proofs.lemmas.Bool.Decides.{nat_tests}
use Rattle.std.proofs.Common.{sym, ◌∙◌, ap, subst, arith, drop-cons}
use Rattle.kr_model.specs.Map.{Map, IsMap, get, without, pairs_between}
use Rattle.kr_model.specs.Run.{Program}
use Rattle.kr_model.specs.Serial.{AreSerial, whole_delete}
use Rattle.kr_model.specs.Difference.{Difference, same_pairs, first_difference}
use Rattle.kr_model.proofs.MapLaws.{t_of, sorted_where, get-without, IsMap-without}
use Rattle.kr_model.proofs.SerialLaws.{serial_if, none_if_serial}
use Rattle.kr_model.proofs.Trees.{first, second}
use Rattle.kr_judge.specs.declared.verdict.Verdict.{Verdict}
use Rattle.kr_judge.specs.declared.verdict.Verdict.TheVariants.{Serial}
use Rattle.kr_judge.specs.Verdicts.{verdict_of}
use Rattle.kr_judge.proofs.Changes.{same_map}

-- Ranges --

-- The pairs with keys up to hi.
abbrev pub up_to : ℕ → Map → Map
up_to hi m = filter (λ e. nat_le e.0 hi) m

-- The pairs with keys from lo on.
abbrev pub from : ℕ → Map → Map
from lo m = filter (λ e. is_le (nat_cmp lo e.0) && true) m

le_test : (lo x : ℕ) → (is_le (nat_cmp lo x) && true) ≡ nat_le lo x
le_test lo x = grind (arith, nat_tests)

-- The pairs between are those from lo on that are up to hi.
pub between_is : (m : Map) (lo hi : ℕ) → pairs_between m lo hi ≡ up_to hi (from lo m)
between_is [] lo hi = refl
between_is (e ∷ m) lo hi = by (is_le (nat_cmp lo e.0) && true) (nat_le e.0 hi) refl (nat_le lo e.0) (sym (le_test lo e.0)) (between_is m lo hi)
  where
    by : (a b : Bool) → nat_le e.0 hi ≡ b → (c : Bool) → c ≡ a → pairs_between m lo hi ≡ up_to hi (from lo m) → cond (c && b) (e ∷ pairs_between m lo hi) (pairs_between m lo hi) ≡ up_to hi (cond a (e ∷ from lo m) (from lo m))
    by true true t true s r = ap (λ (l : Map). e ∷ l) r ∙ sym (ap (λ b. cond b (e ∷ up_to hi (from lo m)) (up_to hi (from lo m))) t)
    by true false t true s r = r ∙ sym (ap (λ b. cond b (e ∷ up_to hi (from lo m)) (up_to hi (from lo m))) t)
    by false b t false s r = r
    by true b t false s r = absurd (cc)
    by false b t true s r = absurd (cc)

pub is_map-from : (m : Map) (lo : ℕ) → IsMap m → IsMap (from lo m)
is_map-from m lo h = sorted_where (λ x. is_le (nat_cmp lo x) && true) m h

past_below : (hi k x : ℕ) → hi < k → T (is_lt (nat_cmp k x)) → nat_le x hi ≡ false
past_below hi k x lt h = by (nat_cmp k x) refl h
  where
    by : (o : Ordering) → nat_cmp k x ≡ o → T (is_lt o) → nat_le x hi ≡ false
    by Less e h = grind (arith, nat_tests)
    by Equal e h = absurd h
    by Greater e h = absurd h

none_above : (m : Map) (hi k : ℕ) → hi < k → T (below_all nat_cmp k m) → up_to hi m ≡ []
none_above [] hi k lt h = refl
none_above (e ∷ m) hi k lt h = ap (λ b. cond b (e ∷ up_to hi m) (up_to hi m)) (past_below hi k e.0 lt (first _ _ h)) ∙ none_above m hi k lt (second _ _ h)

past_test : (k hi : ℕ) → hi < k → nat_le k hi ≡ false
past_test k hi h = grind (arith, nat_tests)

within_test : (k hi : ℕ) → k ≤ hi → nat_le k hi ≡ true
within_test k hi h = grind (arith, nat_tests)

-- Where the first key is past hi, no pair is up to it.
pub up_to-past : (m : Map) (e : ℕ × ℕ) (hi : ℕ) → IsMap (e ∷ m) → hi < e.0 → up_to hi (e ∷ m) ≡ []
up_to-past m e hi h lt = ap (λ b. cond b (e ∷ up_to hi m) (up_to hi m)) (past_test e.0 hi lt) ∙ none_above m hi e.0 lt (first _ _ (t_of _ h))

-- Where it isn't, it is the first of them.
pub up_to-within : (m : Map) (e : ℕ × ℕ) (hi : ℕ) → e.0 ≤ hi → up_to hi (e ∷ m) ≡ e ∷ up_to hi m
up_to-within m e hi le = ap (λ b. cond b (e ∷ up_to hi m) (up_to hi m)) (within_test e.0 hi le)

-- Rows that are left are none exactly at their end.
pub same_at_end : (rows : Map) (i : ℕ) → i ≤ length rows → same_pairs (drop i rows) [] ≡ (i == length rows)
same_at_end [] zero h = refl
same_at_end [] (suc i) h = absurd (omega arith)
same_at_end (x ∷ rows) zero h = let e : (0 == suc (length rows)) ≡ false = grind (arith, nat_tests) in sym e
same_at_end (x ∷ rows) (suc i) h = same_at_end rows i (omega arith) ∙ tests_agree i (length rows)
  where
    tests_agree : (a b : ℕ) → (a == b) ≡ (suc a == suc b)
    tests_agree a b = grind (arith, nat_tests)

-- No rows are left where a pair is.
pub none_left : (rows : Map) (i : ℕ) (e : ℕ × ℕ) (m : Map) → i ≡ length rows → same_pairs (drop i rows) (e ∷ m) ≡ false
none_left [] i e m h = subst (λ z. same_pairs (drop z []) (e ∷ m) ≡ false) (sym h) refl
none_left (x ∷ rows) i e m h = subst (λ z. same_pairs (drop z (x ∷ rows)) (e ∷ m) ≡ false) (sym h) (none_left rows (length rows) e m refl)

-- What isn't so is not.
pub not_true : (b : Bool) → not b ≡ true → b ≡ false
not_true true h = absurd (cc)
not_true false h = refl

-- A row that is compared with a pair.
pub row_compared : (rows : Map) (i : ℕ) (e d : ℕ × ℕ) (m : Map) → i < length rows
    → same_pairs (drop i rows) (e ∷ m) ≡ (((get_or rows i d).0 == e.0) && ((get_or rows i d).1 == e.1)) && same_pairs (drop (suc i) rows) m
row_compared rows i e d m lt = ap (λ (l : Map). same_pairs l (e ∷ m)) (drop-cons rows i d lt)

none_of : (d : Option Difference) → verdict_of d ≡ Serial → d ≡ None
none_of None e = refl
none_of (Some d) e = absurd (cc)

-- The verdict that tells the first difference is `Serial` exactly where the programs are serializable in commit order.
pub serial_exactly : (v : Verdict) (m : Map) (ps : List Program) → v ≡ verdict_of (first_difference m ps) → (v ≡ Serial → AreSerial m ps) × (AreSerial m ps → v ≡ Serial)
serial_exactly v m ps e = (λ s. serial_if m ps (none_of (first_difference m ps) (sym e ∙ s)), λ a. e ∙ ap verdict_of (none_if_serial m ps a))

-- A map without a key that is absent is the map.
without_absent : (m : Map) (k : ℕ) → get m k ≡ None → IsMap m → without m k ≡ m
without_absent m k e h = same_map (without m k) m (IsMap-without m k h) h (λ q. get-without m k q ∙ by q (k == q) refl)
  where
    by : (q : ℕ) (b : Bool) → (k == q) ≡ b → cond b None (get m q) ≡ get m q
    by q true s = sym e ∙ ap (get m) (let same : k ≡ q = grind (arith, nat_tests) in same)
    by q false s = refl

-- A whole delete leaves the map without the key, whether it was there or not.
pub deleted_map : (m : Map) (k : ℕ) (v : Option ℕ) → get m k ≡ v → IsMap m → (whole_delete m k v).1 ≡ without m k
deleted_map m k (Some v) e h = refl
deleted_map m k None e h = sym (without_absent m k e h)
