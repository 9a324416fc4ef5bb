-- The signs of a page: what is well has a tick, and what isn't a cross. And how a verdict begins that has one.
use Rattle.std.specs.Prelude.{ℕ, List, [], ◌∷◌, ◌++◌, Bool, true, false, codes}

-- ✓, in UTF-8
abbrev pub tick : List ℕ
tick = 226 ∷ 156 ∷ 147 ∷ []

-- ✗, in UTF-8
abbrev pub cross : List ℕ
cross = 226 ∷ 156 ∷ 151 ∷ []

-- How the verdict on a run begins: it is serializable, or it isn't.
abbrev pub serial_words : Bool → List ℕ
serial_words true = codes "<p class=\"verdict yes\"><b>" ++ (tick ++ codes " Serial.</b> ")
serial_words false = codes "<p class=\"verdict no\"><b>" ++ (cross ++ codes " Not serial.</b> ")
