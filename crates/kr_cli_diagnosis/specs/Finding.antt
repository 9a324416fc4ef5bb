-- What is put behind what helps.
use Rattle.std.specs.Prelude.{◌≡◌, ◌⊎◌, ◌++◌, ℕ, List}
use Rattle.kr_cli_diagnosis.specs.Help.{IsHelp, AreThreeHelps}
use Rattle.kr_cli_diagnosis.specs.Lines.{lines}

-- A text was put behind what was there, or it stayed as it was.
abbrev pub MayBePut : (old new text : List ℕ) → Type 0
MayBePut old new text = (new ≡ old ++ text) ⊎ (new ≡ old)

-- What helps at a fault of bytes that are had for the word was put behind what was there, or nothing was.
abbrev pub AddsHelp : List ℕ → List ℕ → List ℕ → Type 0
AddsHelp word old new = (bytes text : List ℕ) × (IsHelp word bytes text × (new ≡ old ++ text))

-- The same, or warnings of what may stand twice in a script: its format, its opening and its steps.
abbrev pub AddsHelps : List ℕ → List ℕ → List ℕ → Type 0
AddsHelps word old new = (bytes text : List ℕ) × ((IsHelp word bytes text ⊎ AreThreeHelps word bytes text) × (new ≡ old ++ text))

-- Whole lines that a terminal shows as they are: no character in them is a control character or hidden.
abbrev pub AreLines : List ℕ → Type 0
AreLines text = (texts : List (List ℕ)) × (text ≡ lines texts)

-- Such lines were put behind what was there.
abbrev pub AddsLines : List ℕ → List ℕ → Type 0
AddsLines old new = (text : List ℕ) × (AreLines text × (new ≡ old ++ text))
