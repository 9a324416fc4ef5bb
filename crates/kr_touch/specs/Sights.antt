-- What an attempt finds in the index.
use Rattle.std.specs.Prelude.{◌≡◌, ℕ, Option, Some, None}
use Rattle.kr_model.specs.declared.Name.{Name}
use Rattle.kr_model.specs.declared.Name.TheVariants.{Key, End}
use Rattle.kr_model.specs.declared.Step.{Step}
use Rattle.kr_model.specs.declared.Step.TheVariants as attempt
use Rattle.kr_model.specs.Map.{Map, get}
use Rattle.kr_model.specs.Plan.{access, access_of}
use Rattle.kr_touch.specs.declared.sights.Sight.{Sight}

-- The value of a name: that of its key, and none at the end.
abbrev pub value_of_name : Map → Name → Option ℕ
value_of_name m (Key k) = get m k
value_of_name m End = None

-- The value of the key that an attempt is at.
abbrev pub value_at : Map → Step → Option ℕ
value_at m (attempt.Fetch k) = get m k
value_at m (attempt.Insert k) = get m k
value_at m (attempt.Delete k) = get m k
value_at m (attempt.Update k) = get m k
value_at m (attempt.Look n hi) = value_of_name m n

-- A pair is what stands at a name: none at the end, and else the key with its value.
abbrev pub IsPairAt : Map → Name → Option (ℕ × ℕ) → Type 0
IsPairAt m n None = n ≡ End
IsPairAt m n (Some p) = (n ≡ Key p.0) × (get m p.0 ≡ Some p.1)

-- What is found is what the attempt has in the index.
pub record IsSight (m : Map) (s : Sight) : Type 0 where
  -- the row and the names at the two sides
  pub access : access s.row s.current s.next ≡ access_of m s.attempt
  -- and the value of the key
  pub value : s.value ≡ value_at m s.attempt
