-- The words that the program is called with.
use Rattle.std.specs.Prelude.{◌≡◌, ℕ, ◌<◌, ◌^◌, List, [], ◌∷◌, codes}
use Rattle.std.specs.Fmt.{decimal}
use Rattle.kr_cli.specs.Words.{IsPlain}
use Rattle.kr_cli_tables.specs.declared.explanations.words.Wanted.{Wanted}
use Rattle.kr_cli_tables.specs.declared.explanations.words.Wanted.TheVariants.{Explanation, Script}

-- The words that ask for something of the table that a word names.
abbrev pub words_of : List ℕ → Wanted → List (List ℕ)
words_of table Explanation = table ∷ []
words_of table (Script number) = table ∷ codes "--script" ∷ decimal number ∷ []

-- What can be asked: the table's word can name one, and a number is from 1 and has 64 bits at most.
abbrev pub IsAsked : List ℕ → Wanted → Type 0
IsAsked table Explanation = IsPlain table
IsAsked table (Script number) = IsPlain table × ((0 < number) × (number < 2 ^ 64))

-- The words ask for nothing of a table.
abbrev pub AskNothingOfTables : List (List ℕ) → Type 0
AskNothingOfTables words = (table : List ℕ) (wanted : Wanted) → IsAsked table wanted → words ≡ words_of table wanted → ⊥
