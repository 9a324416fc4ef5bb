-- What the index tells at a name.
use Rattle.std.specs.Prelude.{◌≡◌, ℕ, Bool, true, false, cond, Option, Some, None, IfSome, IfNone, refl, is_some, nat_le}
use Rattle.std.specs.Ordering.{nat_cmp}
use Rattle.std.specs.FinMap.{is_sorted}
use Rattle.std.proofs.Common.{ap, sym, ◌∙◌, subst, [], ◌∷◌, ◌<◌, ◌≤◌, ◌⊎◌, inl, inr, arith}
use Rattle.std.proofs.lemmas.Bool.Decides.{nat_tests}
use Rattle.kr_model.specs.declared.Name.{Name}
use Rattle.kr_model.specs.declared.Name.TheVariants.{Key, End}
use Rattle.kr_model.specs.declared.Row.TheVariants as row
use Rattle.kr_model.specs.declared.Op.{Op}
use Rattle.kr_model.specs.declared.Step.{Step}
use Rattle.kr_model.specs.declared.Step.TheVariants as attempt
use Rattle.kr_model.specs.Map.{Map, IsMap, get, at, after}
use Rattle.kr_model.proofs.MapLaws.{t_of}
use Rattle.kr_parts.proofs.NextNames.{none_from, none_below}
use Rattle.kr_model.specs.Plan.{Access, access, access_of}
use Rattle.kr_model.specs.State.{Scan}
use Rattle.kr_model.specs.Step.{name_to_look}
use Rattle.kr_touch.specs.declared.parts.KeyTouch.{KeyTouch}
use Rattle.kr_touch.specs.declared.parts.KeyTouch.TheVariants as key
use Rattle.kr_touch.specs.Parts.{op_of_key, key_of}
use Rattle.kr_touch.specs.Attempts.{IsRowAt, IsRowOf, attempt_of, look_of}
use Rattle.kr_touch.specs.Sights.{IsPairAt, IsSight, value_at, value_of_name}
use Rattle.kr_touch.specs.declared.sights.Sight.{Sight}

-- A pair with the key of a name, and its value, is what stands there; none is there at the end.
pub pair_is : (m : Map) (n : Name) (r : Option (ℕ × ℕ)) → IfNone r (n ≡ End) → IfSome r (λ p. n ≡ Key p.0) → IfSome r (λ p. get m p.0 ≡ Some p.1) → IsPairAt m n r
pair_is m n None none name value = none
pair_is m n (Some p) none name value = (name, value)

row_by : (b : Bool) (x y : Access) → (cond b x y).row ≡ cond b x.row y.row
row_by true x y = refl
row_by false x y = refl

row_at : (m : Map) (a : Step) (x : Access) → x ≡ access_of m a → IsRowAt m a x.row
row_at m (attempt.Fetch k) x is = ap (λ (y : Access). y.row) is ∙ row_by (is_some (get m k)) (access row.FetchHit (Some (Key k)) None) (access row.FetchMiss None (Some (at m k)))
row_at m (attempt.Insert k) x is = ap (λ (y : Access). y.row) is ∙ row_by (is_some (get m k)) (access row.FetchHit (Some (Key k)) None) (access row.Insert (Some (Key k)) (Some (at m k)))
row_at m (attempt.Delete k) x is = ap (λ (y : Access). y.row) is ∙ row_by (is_some (get m k)) (access row.Delete (Some (Key k)) (Some (after m k))) (access row.FetchMiss None (Some (at m k)))
row_at m (attempt.Update k) x is = ap (λ (y : Access). y.row) is ∙ row_by (is_some (get m k)) (access row.Update (Some (Key k)) None) (access row.FetchMiss None (Some (at m k)))
row_at m (attempt.Look n hi) x is = tt

-- The row that an attempt finds is that of its operation.
pub row_of_sight : (m : Map) (c : Option Scan) (o : Op) (s : Sight) → attempt_of m c o ≡ Some s.attempt → IsSight m s → IsRowOf m c o s.row
row_of_sight m c o s is seen = subst (λ x. IfSome x (λ a. IsRowAt m a s.row)) (sym is) (row_at m s.attempt (access s.row s.current s.next) seen.access)

some_step : (a b : Step) → ◌≡◌ {A = Option Step} (Some a) (Some b) → a ≡ b
some_step a b e = cc

-- What is found of a key that is read or changed is its value.
pub value_of_key : (m : Map) (c : Option Scan) (x : KeyTouch) (s : Sight) → attempt_of m c (op_of_key x) ≡ Some s.attempt → IsSight m s → s.value ≡ get m (key_of x)
value_of_key m c (key.Fetch k) s is seen = seen.value ∙ ap (value_at m) (sym (some_step (attempt.Fetch k) s.attempt is))
value_of_key m c (key.Insert k v) s is seen = seen.value ∙ ap (value_at m) (sym (some_step (attempt.Insert k) s.attempt is))
value_of_key m c (key.Delete k) s is seen = seen.value ∙ ap (value_at m) (sym (some_step (attempt.Delete k) s.attempt is))
value_of_key m c (key.Update k v) s is seen = seen.value ∙ ap (value_at m) (sym (some_step (attempt.Update k) s.attempt is))

-- A scan's step looks at the name that is next.
pub looks_at : (m : Map) (c : Scan) (s : Sight) → look_of m (Some c) ≡ Some s.attempt → s.attempt ≡ attempt.Look (name_to_look m c) c.hi
looks_at m c s is = sym (some_step (attempt.Look (name_to_look m c) c.hi) s.attempt is)

-- What is found there is the value of that name.
pub value_of_look : (m : Map) (c : Scan) (s : Sight) → look_of m (Some c) ≡ Some s.attempt → IsSight m s → s.value ≡ value_of_name m (name_to_look m c)
value_of_look m c s is seen = seen.value ∙ ap (value_at m) (looks_at m c s is)

-- The name that a scan in progress looks at, if one is in progress, where that name is taken from the attempt.
pub go_looks : (m : Map) (o : Option Scan) (s : Sight) (n : Name) → look_of m o ≡ Some s.attempt → ((k : Name) (hi : ℕ) → s.attempt ≡ attempt.Look k hi → n ≡ k) → IfSome o (λ c. n ≡ name_to_look m c)
go_looks m None s n is taken = tt
go_looks m (Some c) s n is taken = taken (name_to_look m c) c.hi (looks_at m c s is)

-- What is found there is the value of that name.
pub go_value : (m : Map) (o : Option Scan) (s : Sight) (n : Name) → look_of m o ≡ Some s.attempt → ((k : Name) (hi : ℕ) → s.attempt ≡ attempt.Look k hi → n ≡ k) → IsSight m s → s.value ≡ value_of_name m n
go_value m None s n is taken seen = absurd (cc is)
go_value m (Some c) s n is taken seen = value_of_look m c s is seen ∙ ap (value_of_name m) (sym (taken (name_to_look m c) c.hi (looks_at m c s is)))

le_of : (a b : ℕ) → nat_le a b ≡ true → a ≤ b
le_of a b e = grind (arith, nat_tests)

three : (a b : ℕ) → (a < b) ⊎ ((a ≡ b) ⊎ (b < a))
three a b = grind arith

from_on : (m : Map) (c k : ℕ) → at m c ≡ Key k → c ≤ k
from_on [] c k is = absurd (cc is)
from_on (p ∷ m) c k is = by (nat_le c p.0) refl is (λ h. from_on m c k h)
  where
    by : (b : Bool) → nat_le c p.0 ≡ b → cond b (Key p.0) (at m c) ≡ Key k → (at m c ≡ Key k → c ≤ k) → c ≤ k
    by true e h more = let same : p.0 ≡ k = cc in let le = le_of c p.0 e in omega (arith, same, le)
    by false e h more = more h

-- Where the first name from a key on is another, that key is absent.
pub absent_before : (m : Map) (c k : ℕ) → IsMap m → at m c ≡ Key k → (k ≡ c → ⊥) → None ≡ get m c
absent_before m c k sorted is differs = sym (none_below m c k (t_of (is_sorted nat_cmp m) sorted) is c (omega arith) (by (three c k)))
  where
    by : (c < k) ⊎ ((c ≡ k) ⊎ (k < c)) → c < k
    by (inl lt) = lt
    by (inr (inl same)) = absurd (differs (sym same))
    by (inr (inr more)) = let le = from_on m c k is in absurd (omega (arith, le, more))

-- Where no name is from a key on, that key is absent.
pub absent_at_end : (m : Map) (c : ℕ) → at m c ≡ End → None ≡ get m c
absent_at_end m c is = sym (none_from m c is c (omega arith))
