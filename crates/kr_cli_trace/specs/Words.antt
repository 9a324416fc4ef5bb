-- The words that the program is called with.
use Rattle.std.specs.Prelude.{◌≡◌, ℕ, ◌<◌, ◌^◌, List, [], ◌∷◌, codes, decimal}
use Rattle.kr_cli.specs.Words.{IsPlain}
use Rattle.kr_cli_trace.specs.declared.words.Asked.{Asked}
use Rattle.kr_cli_trace.specs.declared.words.Asked.TheVariants.{Both, OnePart, Serial, SomeOrder}

-- The words that ask of a trace: the first names a table or says what is asked with no table, and the second names the trace.
abbrev pub words_of : Asked → List (List ℕ)
words_of (Both table trace) = table.now ∷ trace.now ∷ []
words_of (OnePart table trace number) = table.now ∷ trace.now ∷ codes "--tell" ∷ decimal number ∷ []
words_of (Serial trace) = codes "--serial" ∷ trace.now ∷ []
words_of (SomeOrder trace) = codes "--some-order" ∷ trace.now ∷ []

-- What can be asked: no word that names a table or a trace begins with a hyphen.
abbrev pub IsAsked : Asked → Type 0
IsAsked (Both table trace) = IsPlain table.now × IsPlain trace.now
IsAsked (OnePart table trace number) = (IsPlain table.now × IsPlain trace.now) × ((0 < number) × (number < 2 ^ 64))
IsAsked (Serial trace) = IsPlain trace.now
IsAsked (SomeOrder trace) = IsPlain trace.now

-- The words ask of no trace.
abbrev pub AskNoTrace : List (List ℕ) → Type 0
AskNoTrace words = (asked : Asked) → IsAsked asked → words ≡ words_of asked → ⊥
