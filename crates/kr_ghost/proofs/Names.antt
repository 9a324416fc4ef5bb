-- Which keys are names, and what a write, an undo and a purge do to that.
use Rattle.std.specs.Prelude.{◌≡◌, ℕ, Bool, true, false, not, ◌||◌, ◌==◌, cond, if◌then◌else◌, List, [], ◌∷◌, Option, Some, None, filter, is_some, refl}
use Rattle.std.proofs.Common.{sym, ◌∙◌, ap, ◌≢◌, ⊎_elim, inl, inr, arith}
use Rattle.std.proofs.lemmas.Bool.{cases_eq}
use Rattle.std.proofs.lemmas.Bool.Decides.{nat_tests}
use Rattle.kr_model.specs.declared.Name.TheVariants.{Key}
use Rattle.kr_model.specs.Map.{Map, IsMap, Changes, get, set, restore, restore_all}
use Rattle.kr_model.proofs.Actives.{tied, untied, any_add_once}
use Rattle.kr_model.proofs.MapLaws.{get-set, IsMap-set}
use Rattle.kr_theorem.proofs.gaps.Gaps.{has}
use Rattle.kr_theorem.proofs.gaps.Maps.{has-get}
use Rattle.kr_theorem.proofs.gaps.Moves.{has_apart, has_here}
use Rattle.kr_theorem.proofs.gaps.Undo.{ChangedIn}
use Rattle.kr_ghost.specs.State.{named, among, ghosts_with, ghosts_restored}

-- Names of the same key, and a test that two keys are the same.
pub key_is : (x y : ℕ) → Key x ≡ Key y → x ≡ y
key_is x y e = cc

pub same_of : (x y : ℕ) → (x == y) ≡ true → x ≡ y
same_of x y h = grind (arith, nat_tests, h)

-- One of two is enough.
pub or_first : (a b : Bool) → a ≡ true → (a || b) ≡ true
or_first true b h = refl
or_first false b h = absurd (cc)

pub or_second : (a b : Bool) → b ≡ true → (a || b) ≡ true
or_second true b h = refl
or_second false b h = h

-- A key is a name where it is present or a ghost.
has-set : (m : Map) (g v k : ℕ) → has (set m g v) k ≡ ((g == k) || has m k)
has-set m g v k = has-get (set m g v) k ∙ ap is_some (get-set m g v k) ∙ by (g == k) (get m k) ∙ ap (λ h. (g == k) || h) (sym (has-get m k))
  where
    by : (b : Bool) (o : Option ℕ) → is_some (if b then Some v else o) ≡ (b || is_some o)
    by true o = refl
    by false o = refl

or_more : (a b c : Bool) → (a || (b || c)) ≡ ((a || b) || c)
or_more true b c = refl
or_more false b c = refl

pub has-named : (m : Map) (ghosts : List ℕ) (k : ℕ) → has (named m ghosts) k ≡ (among ghosts k || has m k)
has-named m [] k = refl
has-named m (g ∷ ghosts) k = has-set (named m ghosts) g 0 k ∙ ap (λ h. (g == k) || h) (has-named m ghosts k) ∙ or_more (g == k) (among ghosts k) (has m k)

-- The names are a map, and present keys and ghosts are names.
pub IsMap-named : (m : Map) (ghosts : List ℕ) → IsMap m → IsMap (named m ghosts)
IsMap-named m [] h = h
IsMap-named m (g ∷ ghosts) h = IsMap-set (named m ghosts) g 0 (IsMap-named m ghosts h)

pub present_named : (m : Map) (ghosts : List ℕ) (k : ℕ) → has m k ≡ true → has (named m ghosts) k ≡ true
present_named m ghosts k h = has-named m ghosts k ∙ or_second (among ghosts k) (has m k) h

pub ghost_named : (m : Map) (ghosts : List ℕ) (k : ℕ) → among ghosts k ≡ true → has (named m ghosts) k ≡ true
ghost_named m ghosts k h = has-named m ghosts k ∙ ap (λ b. b || has m k) h

-- Ghosts left out --

-- Without k, k isn't among them, and every other is where it was.
among_filter : (b : Bool) (g k y : ℕ) (ghosts : List ℕ) → (g == k) ≡ b → y ≢ k → among (filter (λ x. not (x == k)) ghosts) y ≡ among ghosts y
    → among (cond (not b) (g ∷ filter (λ x. not (x == k)) ghosts) (filter (λ x. not (x == k)) ghosts)) y ≡ ((g == y) || among ghosts y)
among_filter true g k y ghosts e ne h = h ∙ sym (ap (λ b. b || among ghosts y) (untied g y (λ d. ne (sym d ∙ same_of g k e))))
among_filter false g k y ghosts e ne h = ap (λ b. (g == y) || b) h

pub among_others : (ghosts : List ℕ) (k y : ℕ) → y ≢ k → among (filter (λ x. not (x == k)) ghosts) y ≡ among ghosts y
among_others [] k y ne = refl
among_others (g ∷ ghosts) k y ne = among_filter (g == k) g k y ghosts refl ne (among_others ghosts k y ne)

among_left : (b : Bool) (g k : ℕ) (ghosts : List ℕ) → (g == k) ≡ b → among (filter (λ x. not (x == k)) ghosts) k ≡ false
    → among (cond (not b) (g ∷ filter (λ x. not (x == k)) ghosts) (filter (λ x. not (x == k)) ghosts)) k ≡ false
among_left true g k ghosts e h = h
among_left false g k ghosts e h = ap (λ b. b || among (filter (λ x. not (x == k)) ghosts) k) e ∙ h

pub among_none : (ghosts : List ℕ) (k : ℕ) → among (filter (λ x. not (x == k)) ghosts) k ≡ false
among_none [] k = refl
among_none (g ∷ ghosts) k = among_left (g == k) g k ghosts refl (among_none ghosts k)

-- A write at k --

pub among_with : (ghosts : List ℕ) (k y : ℕ) (b : Option ℕ) → y ≢ k → among (ghosts_with ghosts k b) y ≡ among ghosts y
among_with ghosts k y (Some v) ne = among_others ghosts k y ne
among_with ghosts k y None ne = any_add_once (λ g. g == y) k ghosts ∙ ap (λ b. b || among ghosts y) (untied k y (λ e. ne (sym e)))

-- Afterwards k is a name, and every other key is one where it was.
pub written_here : (m : Map) (ghosts : List ℕ) (k : ℕ) (b : Option ℕ) → has (named (restore m k b) (ghosts_with ghosts k b)) k ≡ true
written_here m ghosts k (Some v) = present_named (restore m k (Some v)) (ghosts_with ghosts k (Some v)) k (has_here m k (Some v))
written_here m ghosts k None = ghost_named (restore m k None) (ghosts_with ghosts k None) k (any_add_once (λ g. g == k) k ghosts ∙ ap (λ b. b || among ghosts k) (tied k))

pub written_apart : (m : Map) (ghosts : List ℕ) (k : ℕ) (b : Option ℕ) (y : ℕ) → y ≢ k → has (named (restore m k b) (ghosts_with ghosts k b)) y ≡ has (named m ghosts) y
written_apart m ghosts k b y ne =
    has-named (restore m k b) (ghosts_with ghosts k b) y
    ∙ ap (λ c. c || has (restore m k b) y) (among_with ghosts k y b ne)
    ∙ ap (λ h. among ghosts y || h) (has_apart m k b y ne)
    ∙ sym (has-named m ghosts y)

-- So where k was a name, the names are the same.
pub written_names : (m : Map) (ghosts : List ℕ) (k : ℕ) (b : Option ℕ) → has (named m ghosts) k ≡ true → (y : ℕ) → has (named (restore m k b) (ghosts_with ghosts k b)) y ≡ has (named m ghosts) y
written_names m ghosts k b there y = ⊎_elim
    (λ e. ap (has (named (restore m k b) (ghosts_with ghosts k b))) e ∙ written_here m ghosts k b ∙ sym (ap (has (named m ghosts)) e ∙ there))
    (λ ne. written_apart m ghosts k b y ne)
    (cases_eq y k)

-- So they are where a present key has another value.
pub updated_names : (m : Map) (ghosts : List ℕ) (k v : ℕ) → has m k ≡ true → (y : ℕ) → has (named (restore m k (Some v)) ghosts) y ≡ has (named m ghosts) y
updated_names m ghosts k v there y = ⊎_elim
    (λ e. ap (has (named (restore m k (Some v)) ghosts)) e ∙ present_named (restore m k (Some v)) ghosts k (has_here m k (Some v)) ∙ sym (ap (has (named m ghosts)) e ∙ present_named m ghosts k there))
    (λ ne. has-named (restore m k (Some v)) ghosts y ∙ ap (λ h. among ghosts y || h) (has_apart m k (Some v) y ne) ∙ sym (has-named m ghosts y))
    (cases_eq y k)

-- The same of changes undone, whose keys are names.
pub restored_names : (m : Map) (ghosts : List ℕ) (cs : Changes) → ((k : ℕ) → ChangedIn cs k → has (named m ghosts) k ≡ true)
    → (y : ℕ) → has (named (restore_all m cs) (ghosts_restored ghosts cs)) y ≡ has (named m ghosts) y
restored_names m ghosts [] there y = refl
restored_names m ghosts (c ∷ cs) there y =
    let same = written_names m ghosts c.0 c.1 (there c.0 (inl refl)) in
    restored_names (restore m c.0 c.1) (ghosts_with ghosts c.0 c.1) cs (λ k h. same k ∙ there k (inr h)) y ∙ same y

-- A purge --

-- A ghost that is purged is no name, and every other key is one where it was.
pub purged_here : (m : Map) (ghosts : List ℕ) (k : ℕ) → has m k ≡ false → has (named m (filter (λ x. not (x == k)) ghosts)) k ≡ false
purged_here m ghosts k none = has-named m (filter (λ x. not (x == k)) ghosts) k ∙ ap (λ b. b || has m k) (among_none ghosts k) ∙ none

pub purged_apart : (m : Map) (ghosts : List ℕ) (k y : ℕ) → y ≢ k → has (named m (filter (λ x. not (x == k)) ghosts)) y ≡ has (named m ghosts) y
purged_apart m ghosts k y ne =
    has-named m (filter (λ x. not (x == k)) ghosts) y ∙ ap (λ b. b || has m y) (among_others ghosts k y ne) ∙ sym (has-named m ghosts y)
