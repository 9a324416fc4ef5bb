-- The words that the program is called with.
use Rattle.std.specs.Prelude.{◌≡◌, ℕ, List, [], ◌∷◌, codes}
use Rattle.kr_cli.specs.Words.{IsPlain}
use Rattle.kr_cli_tables.specs.declared.relaxations.words.Wanted.{Wanted}
use Rattle.kr_cli_tables.specs.declared.relaxations.words.Wanted.TheVariants.{Relaxations, Tightest, Why}

-- The words that ask for something of the table that a word names.
abbrev pub words_of : List ℕ → Wanted → List (List ℕ)
words_of table Relaxations = table ∷ []
words_of table Tightest = table ∷ codes "--write" ∷ []
words_of table (Why entry) = table ∷ codes "--why" ∷ entry.now ∷ []

-- The words ask for nothing of a table.
abbrev pub AskNothingOfTables : List (List ℕ) → Type 0
AskNothingOfTables words = (table : List ℕ) (wanted : Wanted) → IsPlain table → words ≡ words_of table wanted → ⊥
