-- Of a list, in its order, a part.
use Rattle.std.specs.Prelude.{List, [], ◌∷◌}

-- Of a list, in its order, those of which P is so.
pub data Selects {A : Type 0} (P : A → Type 0) : List A → List A → Type 0 where
  none : Selects P [] []
  taken : (x : A) (every some : List A) → P x → Selects P every some → Selects P (x ∷ every) (x ∷ some)
  passed : (x : A) (every some : List A) → (P x → ⊥) → Selects P every some → Selects P (x ∷ every) some
