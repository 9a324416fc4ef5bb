-- Lists by transaction after one of them is put in or taken out.
use Rattle.std.specs.Prelude.{◌≡◌, ℕ, Bool, true, false, not, ◌==◌, ◌||◌, cond, List, [], ◌∷◌, ◌++◌, Some, None, is_some, filter, map, refl}
use Rattle.std.specs.Ordering.{nat_cmp, eq_by_cmp}
use Rattle.std.specs.Cmp.{nat_cmp_total}
use Rattle.std.specs.FinMap.{find, put}
use Rattle.std.specs.FinMap.Entries.{find-put}
use Rattle.std.proofs.lemmas.Map.Lookups.{exact_unsigned}
use Rattle.std.proofs.Common.{sym, ◌∙◌, ap}
use Rattle.kr_model.proofs.MapLaws.{equal_of_test}
use Rattle.kr_model.proofs.Actives.{find_filter}

pub tied_key : (q k : ℕ) → eq_by_cmp nat_cmp q k ≡ true → k ≡ q
tied_key q k e = sym (exact_unsigned q k (equal_of_test (nat_cmp q k) e))

pub map_append : {A B : Type 0} (f : A → B) (xs ys : List A) → map f (xs ++ ys) ≡ map f xs ++ map f ys
map_append f [] ys = refl
map_append f (x ∷ xs) ys = ap (λ l. f x ∷ l) (map_append f xs ys)

pub or_left : (a b : Bool) → a ≡ true → (a || b) ≡ true
or_left true b h = refl
or_left false b h = absurd (cc)

pub or_none : (a b : Bool) → (a || b) ≡ false → (a ≡ false) × (b ≡ false)
or_none true b h = absurd (cc)
or_none false b h = (refl, h)

pub same_some : {X Y : Type 0} (es : List (ℕ × X)) (fs : List (ℕ × Y)) (t q : ℕ) (v : X) (w : Y) → is_some (find nat_cmp q es) ≡ is_some (find nat_cmp q fs)
    → is_some (find nat_cmp q (put nat_cmp t v es)) ≡ is_some (find nat_cmp q (put nat_cmp t w fs))
same_some es fs t q v w h = ap is_some (find-put nat_cmp nat_cmp_total q t v es) ∙ by (eq_by_cmp nat_cmp q t) ∙ sym (ap is_some (find-put nat_cmp nat_cmp_total q t w fs))
  where
    by : (b : Bool) → is_some (cond b (Some v) (find nat_cmp q es)) ≡ is_some (cond b (Some w) (find nat_cmp q fs))
    by true = refl
    by false = h

pub same_without : {X Y : Type 0} (es : List (ℕ × X)) (fs : List (ℕ × Y)) (t q : ℕ) → is_some (find nat_cmp q es) ≡ is_some (find nat_cmp q fs)
    → is_some (find nat_cmp q (filter (λ e. not (e.0 == t)) es)) ≡ is_some (find nat_cmp q (filter (λ e. not (e.0 == t)) fs))
same_without es fs t q h = ap is_some (find_filter es t q) ∙ by (not (q == t)) ∙ sym (ap is_some (find_filter fs t q))
  where
    by : (b : Bool) → is_some (cond b (find nat_cmp q es) None) ≡ is_some (cond b (find nat_cmp q fs) None)
    by true = h
    by false = refl
