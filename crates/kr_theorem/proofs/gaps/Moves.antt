-- Which keys the changes of a transaction moved: an update has its key there before and after, and every other change brings its key or takes it away.
use Rattle.std.proofs.Common.{ℕ, Bool, true, false, List, [], ◌∷◌, Option, ◌≡◌, ◌≢◌, ◌⊎◌, inl, inr, ⊎_elim, refl, sym, ap, ap₂, ◌∙◌, subst, is_some, true≢false}
use Rattle.std.specs.Prelude.{if◌then◌else◌, not, ◌&&◌, Some, None}
use Rattle.std.proofs.lemmas.Bool.{cases_eq, cases_Bool}
use Rattle.kr_model.specs.Map.{Map, IsMap, Changes, get, restore, restore_all}
use Rattle.kr_theorem.proofs.gaps.Gaps.{has, and_one, and_two}
use Rattle.kr_theorem.proofs.gaps.Maps.{has-get}
use Rattle.kr_theorem.proofs.gaps.Undo.{ChangedIn, InsertedIn, restore_here, restore_apart, restore_back}

pub has_apart : (m : Map) (k : ℕ) (b : Option ℕ) (q : ℕ) → q ≢ k → has (restore m k b) q ≡ has m q
has_apart m k b q ne = has-get (restore m k b) q ∙ ap is_some (restore_apart m k b q ne) ∙ sym (has-get m q)

pub has_here : (m : Map) (k : ℕ) (b : Option ℕ) → has (restore m k b) k ≡ is_some b
has_here m k b = has-get (restore m k b) k ∙ ap is_some (restore_here m k b)

-- The key is in the list.
abbrev pub MovedIn : List ℕ → ℕ → Type 0
MovedIn [] q = ⊥
MovedIn (x ∷ xs) q = (q ≡ x) ⊎ MovedIn xs q

-- Whether the newest change moved its key, in the map after it.
abbrev pub moves : Map → ℕ × Option ℕ → Bool
moves m c = not (has m c.0 && is_some c.1)

-- The keys that the changes moved, in the map after them.
abbrev pub moved_by : Map → Changes → List ℕ
moved_by m [] = []
moved_by m (c ∷ l) = if moves m c then c.0 ∷ moved_by (restore m c.0 c.1) l else moved_by (restore m c.0 c.1) l

-- A moved key is changed.
pub moved_changed : (m : Map) (l : Changes) (k : ℕ) → MovedIn (moved_by m l) k → ChangedIn l k
moved_changed m [] k h = h
moved_changed m (c ∷ l) k h = by (moves m c) (λ more. moved_changed (restore m c.0 c.1) l k more) h
  where
    by : (b : Bool) → (MovedIn (moved_by (restore m c.0 c.1) l) k → ChangedIn l k) → MovedIn (if b then c.0 ∷ moved_by (restore m c.0 c.1) l else moved_by (restore m c.0 c.1) l) k → ChangedIn (c ∷ l) k
    by true rest h = ⊎_elim (λ e. inl e) (λ more. inr (rest more)) h
    by false rest h = inr (rest h)

-- What older changes moved is moved.
pub moved_more : (m : Map) (c : ℕ × Option ℕ) (l : Changes) (k : ℕ) → MovedIn (moved_by (restore m c.0 c.1) l) k → MovedIn (moved_by m (c ∷ l)) k
moved_more m c l k h = by (moves m c)
  where
    by : (b : Bool) → MovedIn (if b then c.0 ∷ moved_by (restore m c.0 c.1) l else moved_by (restore m c.0 c.1) l) k
    by true = inr h
    by false = h

-- A changed key that is absent was moved.
pub absent_moved : (m : Map) (l : Changes) (k : ℕ) → ChangedIn l k → has m k ≡ false → MovedIn (moved_by m l) k
absent_moved m [] k h none = h
absent_moved m (c ∷ l) k h none =
    let rest = moved_by (restore m c.0 c.1) l in
    ⊎_elim
    (λ e. subst (λ (b : Bool). MovedIn (if b then c.0 ∷ rest else rest) k) (sym (ap (λ (b : Bool). not (b && is_some c.1)) (sym (ap (has m) e) ∙ none))) (inl e))
    (λ ne. moved_more m c l k (absent_moved (restore m c.0 c.1) l k (⊎_elim (λ e. absurd (ne e)) (λ older. older) h) (has_apart m c.0 c.1 k ne ∙ none)))
    (cases_eq k c.0)

not_false : (b : Bool) → not b ≡ false → b ≡ true
not_false true h = refl
not_false false h = absurd (cc)

-- To take the newest change back brings no key that wasn't moved, and takes none away.
pub unmoved_back : (m : Map) (c : ℕ × Option ℕ) (l : Changes) (k : ℕ) → (MovedIn (moved_by m (c ∷ l)) k → ⊥) → has (restore m c.0 c.1) k ≡ has m k
unmoved_back m c l k out = ⊎_elim (λ e. ap (has (restore m c.0 c.1)) e ∙ by e (moves m c) refl ∙ sym (ap (has m) e)) (λ ne. has_apart m c.0 c.1 k ne) (cases_eq k c.0)
  where
    rest : List ℕ
    rest = moved_by (restore m c.0 c.1) l

    by : k ≡ c.0 → (b : Bool) → moves m c ≡ b → has (restore m c.0 c.1) c.0 ≡ has m c.0
    by e true is = absurd (out (subst (λ (b : Bool). MovedIn (if b then c.0 ∷ rest else rest) k) (sym is) (inl e)))
    by e false is =
        let both = not_false (has m c.0 && is_some c.1) is in
        has_here m c.0 c.1 ∙ and_two (has m c.0) (is_some c.1) both ∙ sym (and_one (has m c.0) (is_some c.1) both)

-- The same of all changes.
pub unmoved_kept : (m : Map) (l : Changes) (k : ℕ) → (MovedIn (moved_by m l) k → ⊥) → has (restore_all m l) k ≡ has m k
unmoved_kept m [] k out = refl
unmoved_kept m (c ∷ l) k out = unmoved_kept (restore m c.0 c.1) l k (λ more. out (moved_more m c l k more)) ∙ unmoved_back m c l k out

-- A key that goes where the newest change is undone was inserted by it.
pub back_inserted : (m : Map) (c : ℕ × Option ℕ) (k : ℕ) → has m k ≡ true → has (restore m c.0 c.1) k ≡ false → (k ≡ c.0) × (c.1 ≡ None)
back_inserted m c k there gone = ⊎_elim
    (λ e. (e, none_of c.1 (sym (has_here m c.0 c.1) ∙ sym (ap (has (restore m c.0 c.1)) e) ∙ gone)))
    (λ ne. absurd (true≢false (sym there ∙ sym (has_apart m c.0 c.1 k ne) ∙ gone)))
    (cases_eq k c.0)
  where
    none_of : (o : Option ℕ) → is_some o ≡ false → o ≡ None
    none_of None e = refl
    none_of (Some v) e = absurd (cc)

-- One that goes where all changes are undone was inserted by one of them.
pub undone_inserted : (m : Map) (l : Changes) (k : ℕ) → has m k ≡ true → has (restore_all m l) k ≡ false → InsertedIn l k
undone_inserted m [] k there gone = absurd (true≢false (sym there ∙ gone))
undone_inserted m (c ∷ l) k there gone = ⊎_elim
    (λ stays. inr (undone_inserted (restore m c.0 c.1) l k stays gone))
    (λ goes. inl (back_inserted m c k there goes))
    (cases_Bool (has (restore m c.0 c.1) k))

-- Where two maps have the same of the changed keys, the same keys were moved.
pub moved_frame : (m n : Map) (l : Changes) → ((k : ℕ) → ChangedIn l k → has n k ≡ has m k) → moved_by n l ≡ moved_by m l
moved_frame m n [] same = refl
moved_frame m n (c ∷ l) same =
    ap₂ (λ (b : Bool) (xs : List ℕ). if not (b && is_some c.1) then c.0 ∷ xs else xs) (same c.0 (inl refl))
    (moved_frame (restore m c.0 c.1) (restore n c.0 c.1) l (λ k h. ⊎_elim
    (λ e. ap (has (restore n c.0 c.1)) e ∙ has_here n c.0 c.1 ∙ sym (ap (has (restore m c.0 c.1)) e ∙ has_here m c.0 c.1))
    (λ ne. has_apart n c.0 c.1 k ne ∙ same k (inr h) ∙ sym (has_apart m c.0 c.1 k ne))
    (cases_eq k c.0)))

-- One more change, of k, where `old` stood and b stands then.
pub moved_push : (m : Map) (k : ℕ) (b old : Option ℕ) (l : Changes) → IsMap m → get m k ≡ old
    → moved_by (restore m k b) ((k, old) ∷ l) ≡ (if not (is_some b && is_some old) then k ∷ moved_by m l else moved_by m l)
moved_push m k b old l hm was =
    ap₂ (λ (d : Bool) (xs : List ℕ). if not (d && is_some old) then k ∷ xs else xs) (has_here m k b)
    (ap (λ z. moved_by z l) (ap (λ x. restore (restore m k b) k x) (sym was) ∙ restore_back m k b hm))
