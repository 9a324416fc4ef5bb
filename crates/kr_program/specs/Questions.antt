-- The words that ask a program about itself.
use Rattle.std.specs.Prelude.{◌≡◌, ◌⊎◌, ℕ, List, [], ◌∷◌, codes}
use Rattle.kr_program.specs.declared.questions.Question.{Question}
use Rattle.kr_program.specs.declared.questions.Question.TheVariants.{Help, Version}

-- The words ask this about the program.
abbrev pub IsQuestion : List (List ℕ) → Question → Type 0
IsQuestion words Help = (words ≡ codes "--help" ∷ []) ⊎ (words ≡ codes "-h" ∷ [])
IsQuestion words Version = words ≡ codes "--version" ∷ []

-- The words ask nothing about the program.
abbrev pub IsNoQuestion : List (List ℕ) → Type 0
IsNoQuestion words = (q : Question) → IsQuestion words q → ⊥
