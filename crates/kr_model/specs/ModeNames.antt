-- The names of modes.
use Rattle.std.specs.Prelude.{◌≡◌, ◌≢◌, ℕ, ◌-◌, ◌<◌, ◌≤◌, ◌==◌, if◌then◌else◌, List, [], ◌∷◌, All, AllPairs, length, slice_index_or, codes}

-- The text that stands where there is no mode.
abbrev pub none_name : List ℕ
none_name = codes "none"

-- The name of mode m, of the names of the modes from 1.
abbrev pub name_of : List (List ℕ) → ℕ → List ℕ
name_of names m = if m == 0 then none_name else slice_index_or names (m - 1) []

-- A text that a mode may bear: 1 to 24 bytes from space to tilde, and not that of no mode.
pub record IsModeName (name : List ℕ) : Type 0 where
  pub some : 0 < length name
  pub short : length name ≤ 24
  pub printable : All (λ b. (32 ≤ b) × (b ≤ 126)) name
  pub not_none : name ≢ none_name

-- A name for each of so many modes, and no two alike.
pub record AreModeNames (names : List (List ℕ)) (count : ℕ) : Type 0 where
  pub one_each : length names ≡ count
  pub each : All IsModeName names
  pub distinct : AllPairs (λ a b. a ≢ b) names

-- The modes of key-value locking, in order.
abbrev pub kvl_names : List (List ℕ)
kvl_names = codes "IS" ∷ codes "IX" ∷ codes "S" ∷ codes "SIX" ∷ codes "X" ∷ []

-- The modes of index-specific locking, in order.
abbrev pub im_names : List (List ℕ)
im_names = codes "S" ∷ codes "X" ∷ []

-- The modes of range-key locking, in order; the range part comes first.
abbrev pub range_key_names : List (List ℕ)
range_key_names =
    codes "N-S" ∷ codes "N-X"
    ∷ codes "S-N" ∷ codes "S-S" ∷ codes "S-X"
    ∷ codes "I-N" ∷ codes "I-S" ∷ codes "I-X"
    ∷ codes "X-N" ∷ codes "X-S" ∷ codes "X-X" ∷ []
