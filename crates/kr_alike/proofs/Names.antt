-- The two names of an attempt differ.
use Rattle.std.proofs.Common.{ℕ, suc, ◌≤◌, ◌≡◌, refl, sym, ap, ◌∙◌, arith, Bool, true, false, [], ◌∷◌}
use Rattle.std.specs.Prelude.{Some, None, cond, is_some, nat_le, if◌then◌else◌}
use Rattle.std.specs.Ordering.{nat_cmp, eq_by_cmp}
use Rattle.kr_model.specs.declared.Name.{Name}
use Rattle.kr_model.specs.declared.Name.TheVariants.{Key, End}
use Rattle.kr_model.specs.declared.Row.{Row}
use Rattle.kr_model.specs.declared.Row.TheVariants as row
use Rattle.kr_model.specs.declared.Step.{Step}
use Rattle.kr_model.specs.declared.Step.TheVariants as attempt
use Rattle.kr_model.specs.Map.{Map, get, at, after}
use Rattle.kr_model.specs.Plan.{Access, access, access_of}
use Rattle.kr_model.proofs.MapLaws.{key_tie}
use Rattle.kr_model.proofs.Tested.{le_of_test}

key_of : (a b : ℕ) → Key a ≡ Key b → a ≡ b
key_of a b e = cc

-- The next key isn't below the one that is looked for.
at_least : (m : Map) (c k : ℕ) → at m c ≡ Key k → c ≤ k
at_least [] c k e = absurd (cc)
at_least (x ∷ xs) c k e = by (λ f. at_least xs c k f) (nat_le c x.0) refl e
  where
    by : (at xs c ≡ Key k → c ≤ k) → (b : Bool) → nat_le c x.0 ≡ b → (if b then Key x.0 else at xs c) ≡ Key k → c ≤ k
    by more true le e = let same = key_of x.0 k e in let lt = le_of_test c x.0 le in omega arith
    by more false le e = more e

-- It is that one only where the key is present.
at_present : (m : Map) (k : ℕ) → at m k ≡ Key k → is_some (get m k) ≡ true
at_present [] k e = absurd (cc)
at_present (x ∷ xs) k e = by (λ f. at_present xs k f) (eq_by_cmp nat_cmp k x.0) refl (nat_le k x.0) refl e
  where
    no : (b : Bool) → b ≡ true → b ≡ false → ⊥
    no b f g = cc

    by : (at xs k ≡ Key k → is_some (get xs k) ≡ true) → (tie : Bool) → eq_by_cmp nat_cmp k x.0 ≡ tie → (b : Bool) → nat_le k x.0 ≡ b → (if b then Key x.0 else at xs k) ≡ Key k
        → is_some (cond tie (Some x.1) (get xs k)) ≡ true
    by more true ties b le e = refl
    by more false ties true le e = absurd (no (eq_by_cmp nat_cmp k x.0) (ap (λ y. eq_by_cmp nat_cmp k y) (key_of x.0 k e) ∙ key_tie k) ties)
    by more false ties false le e = more e

-- The current and the next name differ.
abbrev pub AreApart : Access → Type 0
AreApart a = (n : Name) → a.current ≡ Some n → a.next ≡ Some n → ⊥

no_next : (r : Row) (n : Name) → AreApart (access r (Some n) None)
no_next r n x e f = cc

no_current : (r : Row) (n : Name) → AreApart (access r None (Some n))
no_current r n x e f = cc

both : (r : Row) (n x : Name) → (x ≡ n → ⊥) → AreApart (access r (Some n) (Some x))
both r n x d y e f = d (name_of x y f ∙ sym (name_of n y e))
  where
    name_of : (a b : Name) → Some a ≡ Some b → a ≡ b
    name_of a b e = cc

pub apart : (m : Map) (s : Step) → AreApart (access_of m s)
apart m (attempt.Fetch k) = by (is_some (get m k))
  where
    by : (b : Bool) → AreApart (if b then access row.FetchHit (Some (Key k)) None else access row.FetchMiss None (Some (at m k)))
    by true = no_next row.FetchHit (Key k)
    by false = no_current row.FetchMiss (at m k)
apart m (attempt.Insert k) = by (is_some (get m k)) refl
  where
    no : (b : Bool) → b ≡ true → b ≡ false → ⊥
    no b f g = cc

    by : (b : Bool) → is_some (get m k) ≡ b → AreApart (if b then access row.FetchHit (Some (Key k)) None else access row.Insert (Some (Key k)) (Some (at m k)))
    by true e = no_next row.FetchHit (Key k)
    by false e = both row.Insert (Key k) (at m k) (λ f. no (is_some (get m k)) (at_present m k f) e)
apart m (attempt.Delete k) = by (is_some (get m k))
  where
    above : after m k ≡ Key k → ⊥
    above e = let le : suc k ≤ k = at_least m (suc k) k e in omega arith

    by : (b : Bool) → AreApart (if b then access row.Delete (Some (Key k)) (Some (after m k)) else access row.FetchMiss None (Some (at m k)))
    by true = both row.Delete (Key k) (after m k) above
    by false = no_current row.FetchMiss (at m k)
apart m (attempt.Update k) = by (is_some (get m k))
  where
    by : (b : Bool) → AreApart (if b then access row.Update (Some (Key k)) None else access row.FetchMiss None (Some (at m k)))
    by true = no_next row.Update (Key k)
    by false = no_current row.FetchMiss (at m k)
apart m (attempt.Look End hi) = no_current row.ScanStop End
apart m (attempt.Look (Key k) hi) = by (nat_le k hi)
  where
    by : (b : Bool) → AreApart (if b then access row.ScanKey (Some (Key k)) None else access row.ScanStop None (Some (Key k)))
    by true = no_next row.ScanKey (Key k)
    by false = no_current row.ScanStop (Key k)
