-- The words that the program is called with.
use Rattle.std.specs.Prelude.{◌≡◌, ℕ, List, [], ◌∷◌}
use Rattle.kr_cli.specs.Words.{IsPlain}
use Rattle.kr_cli_tables.specs.declared.pages.words.Asked.{Asked}
use Rattle.kr_cli_tables.specs.declared.pages.words.Asked.TheVariants.{Table, Run}

-- The words that ask for a page: one names a table, and a second, if there is one, a script.
abbrev pub words_of : Asked → List (List ℕ)
words_of (Table table) = table.now ∷ []
words_of (Run table script) = table.now ∷ script.now ∷ []

-- What can be asked: no word begins with a hyphen.
abbrev pub IsAsked : Asked → Type 0
IsAsked (Table table) = IsPlain table.now
IsAsked (Run table script) = IsPlain table.now × IsPlain script.now

-- The words ask for no page.
abbrev pub AskNoPage : List (List ℕ) → Type 0
AskNoPage words = (asked : Asked) → IsAsked asked → words ≡ words_of asked → ⊥
