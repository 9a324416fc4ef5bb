-- Parts of lists, in their order.
use Rattle.std.proofs.Common.{zero, suc, ◌≡◌, List, [], ◌∷◌, ◌++◌, All, refl, sym, subst, arith}
use Rattle.std.specs.Prelude.{Contains}
use Rattle.std.proofs.lemmas.List.Elements.{All-nil, All-cons}
use Rattle.kr_relax_core.specs.Selects.{Selects, none, taken, passed}

-- Behind those that were judged comes one more of which it is so,
pub select_taken : {A : Type 0} → (P : A → Type 0) (x : A) (every some : List A) → P x → Selects P every some → Selects P (every ++ x ∷ []) (some ++ x ∷ [])
select_taken P x _ _ is none = taken x [] [] is none
select_taken P x _ _ is (taken y every some one rest) = taken y (every ++ x ∷ []) (some ++ x ∷ []) one (select_taken P x every some is rest)
select_taken P x _ _ is (passed y every some isnt rest) = passed y (every ++ x ∷ []) (some ++ x ∷ []) isnt (select_taken P x every some is rest)

-- or of which it isn't.
pub select_passed : {A : Type 0} → (P : A → Type 0) (x : A) (every some : List A) → (P x → ⊥) → Selects P every some → Selects P (every ++ x ∷ []) some
select_passed P x _ _ isnt none = passed x [] [] isnt none
select_passed P x _ _ isnt (taken y every some one rest) = taken y (every ++ x ∷ []) some one (select_passed P x every some isnt rest)
select_passed P x _ _ isnt (passed y every some other rest) = passed y (every ++ x ∷ []) some other (select_passed P x every some isnt rest)

-- Of each it is so.
pub selected_each : {A : Type 0} → (P : A → Type 0) (every some : List A) → Selects P every some → All P some
selected_each P _ _ none = All-nil P
selected_each P _ _ (taken y every some one rest) = All-cons P y some one (selected_each P every some rest)
selected_each P _ _ (passed y every some isnt rest) = selected_each P every some rest

later : {A : Type 0} → (y x : A) (list : List A) → Contains list x → Contains (y ∷ list) x
later y x list there = (suc there.0, (let low = there.1 in omega arith), there.2)

-- And each of which it is so is there.
pub selected_all : {A : Type 0} → (P : A → Type 0) (every some : List A) → Selects P every some → (x : A) → Contains every x → P x → Contains some x
selected_all P _ _ none x there is = absurd (let low = there.1 in omega (arith, low))
selected_all P _ _ (taken y every some one rest) x (zero, low, e) is = (0, omega arith, e)
selected_all P _ _ (taken y every some one rest) x (suc k, low, e) is = later y x some (selected_all P every some rest x (k, omega arith, e) is)
selected_all P _ _ (passed y every some isnt rest) x (zero, low, e) is = absurd (isnt (subst P (sym e) is))
selected_all P _ _ (passed y every some isnt rest) x (suc k, low, e) is = selected_all P every some rest x (k, omega arith, e) is

-- Where it is so of none, nothing is there.
pub selected_none : {A : Type 0} → (P : A → Type 0) (every some : List A) → Selects P every some → ((x : A) → Contains every x → P x → ⊥) → some ≡ []
selected_none P _ _ none isnt_any = refl
selected_none P _ _ (taken y every some one rest) isnt_any = absurd (isnt_any y (0, omega arith, refl) one)
selected_none P _ _ (passed y every some isnt rest) isnt_any = selected_none P every some rest (λ x there is. isnt_any x (later y x every there) is)
