-- The index with the unfinished rolled back, in any order.
use Rattle.std.specs.Prelude.{◌≡◌, ℕ, Bool, true, false, cond, List, [], ◌∷◌, Option, Some, refl, ◌⊎◌}
use Rattle.std.specs.Ordering.{nat_cmp, is_eq, eq_by_cmp}
use Rattle.std.specs.declared.cmp.Ordering.{Ordering}
use Rattle.std.specs.declared.cmp.Ordering.TheVariants.{Less, Equal, Greater}
use Rattle.std.specs.FinMap.{find}
use Rattle.std.specs.List.{AllByRecursion}
use Rattle.std.specs.List.Sorted.{IsPermutation}
use Rattle.std.proofs.lemmas.Map.Lookups.{exact_unsigned}
use Rattle.std.proofs.lemmas.List.Sorted.{IsPermutation-sym, All-permutation}
use Rattle.std.proofs.lemmas.List.Elements.{All-from_recursion, recursion_from_All}
use Rattle.std.proofs.Common.{sym, ◌∙◌, subst, inl, inr, ⊎_elim}
use Rattle.kr_model.specs.Map.{Map, IsMap, get, restore_all}
use Rattle.kr_model.specs.State.{Active}
use Rattle.kr_model.specs.Serial.{rolled_back}
use Rattle.kr_model.proofs.Guarantees.{In}
use Rattle.kr_model.proofs.UndoLaws.{IsMap-restore_all}
use Rattle.kr_theorem.proofs.gaps.Undo.{ChangedIn, changed_or_not, restore_all_apart}

-- What stands at a key when all is rolled back --

-- Some transaction of the list changed the key.
abbrev pub SomeChanged : List (ℕ × Active) → ℕ → Type 0
SomeChanged [] q = ⊥
SomeChanged (x ∷ xs) q = ChangedIn x.1.changes q ⊎ SomeChanged xs q

pub some_changed : (xs : List (ℕ × Active)) (q : ℕ) → SomeChanged xs q ⊎ (SomeChanged xs q → ⊥)
some_changed [] q = inr (λ h. h)
some_changed (x ∷ xs) q = ⊎_elim (λ c. inl (inl c)) (λ n. ⊎_elim (λ c. inl (inr c)) (λ m. inr (λ h. ⊎_elim n m h)) (some_changed xs q)) (changed_or_not x.1.changes q)

pub changed_some : (xs : List (ℕ × Active)) (x : ℕ × Active) (q : ℕ) → In x xs → ChangedIn x.1.changes q → SomeChanged xs q
changed_some [] x q i c = absurd i
changed_some (y ∷ ys) x q (inl e) c = inl (subst (λ (z : ℕ × Active). ChangedIn z.1.changes q) (sym e) c)
changed_some (y ∷ ys) x q (inr i) c = inr (changed_some ys x q i c)

-- A map rolled back is a map.
pub IsMap-rolled_back : (m : Map) (xs : List (ℕ × Active)) → IsMap m → IsMap (rolled_back m xs)
IsMap-rolled_back m [] r = r
IsMap-rolled_back m (x ∷ xs) r = IsMap-rolled_back (restore_all m x.1.changes) xs (IsMap-restore_all m x.1.changes r)

-- If each transaction that changed q leaves v there, and v stands there or one changed it, then v stands there in the end.
pub rolled : (m : Map) (xs : List (ℕ × Active)) (q : ℕ) (v : Option ℕ) → IsMap m
    → ((x : ℕ × Active) → In x xs → ChangedIn x.1.changes q → (n : Map) → IsMap n → get (restore_all n x.1.changes) q ≡ v)
    → (get m q ≡ v) ⊎ SomeChanged xs q → get (rolled_back m xs) q ≡ v
rolled m [] q v r f h = ⊎_elim (λ e. e) (λ c. absurd c) h
rolled m (x ∷ xs) q v r f h =
    rolled (restore_all m x.1.changes) xs q v (IsMap-restore_all m x.1.changes r) (λ y i. f y (inr i))
    (⊎_elim
    (λ c. inl (f x (inl refl) c m r))
    (λ n. ⊎_elim (λ e. inl (restore_all_apart m x.1.changes q n ∙ e)) (λ some. ⊎_elim (λ c. absurd (n c)) (λ later. inr later) some) h)
    (changed_or_not x.1.changes q))

-- Orders of a list --

all_in : {X : Type 0} (xs ys : List X) → ((x : X) → In x xs → In x ys) → AllByRecursion (λ x. In x ys) xs
all_in [] ys f = tt
all_in (x ∷ xs) ys f = (f x (inl refl), all_in xs ys (λ y i. f y (inr i)))

in_all : {X : Type 0} (P : X → Type 0) (xs : List X) (x : X) → AllByRecursion P xs → In x xs → P x
in_all P [] x a i = absurd i
in_all P (y ∷ ys) x a (inl e) = subst P e a.0
in_all P (y ∷ ys) x a (inr i) = in_all P ys x a.1 i

-- A list and another order of it have the same elements.
pub in_order : {X : Type 0} (xs ys : List X) → IsPermutation xs ys → (x : X) → In x ys → In x xs
in_order xs ys s x i = in_all (λ z. In z xs) ys x (recursion_from_All (λ z. In z xs) ys (All-permutation (λ z. In z xs) xs ys s (All-from_recursion (λ z. In z xs) xs (all_in xs xs (λ y j. j))))) i

pub in_other_order : {X : Type 0} (xs ys : List X) → IsPermutation xs ys → (x : X) → In x xs → In x ys
in_other_order xs ys s x i = in_order ys xs (IsPermutation-sym xs ys s) x i

-- So what one of a list changed, one of another order of it changed.
pub some_changed_in : (xs ys : List (ℕ × Active)) (q : ℕ) → ((x : ℕ × Active) → In x xs → In x ys) → SomeChanged xs q → SomeChanged ys q
some_changed_in [] ys q f c = absurd c
some_changed_in (x ∷ xs) ys q f (inl c) = changed_some ys x q (f x (inl refl)) c
some_changed_in (x ∷ xs) ys q f (inr c) = some_changed_in xs ys q (λ y i. f y (inr i)) c

equal_of : (o : Ordering) → is_eq o ≡ true → o ≡ Equal
equal_of Less e = absurd (cc)
equal_of Equal e = refl
equal_of Greater e = absurd (cc)

pair_is : {X : Type 0} (a c : ℕ) (b d : X) → a ≡ c → Some b ≡ Some d → ◌≡◌ {A = ℕ × X} (a, b) (c, d)
pair_is a c b d e f = cc

-- What `find` finds is an entry.
pub found_in : {X : Type 0} (k : ℕ) (v : X) (es : List (ℕ × X)) → find nat_cmp k es ≡ Some v → In (k, v) es
found_in k v [] e = absurd (cc)
found_in k v (f ∷ es) e = by_cases (eq_by_cmp nat_cmp k f.0) refl e (λ g. found_in k v es g)
  where
    by_cases : (b : Bool) → eq_by_cmp nat_cmp k f.0 ≡ b → cond b (Some f.1) (find nat_cmp k es) ≡ Some v → (find nat_cmp k es ≡ Some v → In (k, v) es) → (f ≡ (k, v)) ⊎ In (k, v) es
    by_cases true p g r = inl (pair_is f.0 k f.1 v (sym (exact_unsigned k f.0 (equal_of (nat_cmp k f.0) p))) g)
    by_cases false p g r = inr (r g)
