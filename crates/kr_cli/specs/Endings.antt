-- How a program ends, and the line that tells it.
use Rattle.std.specs.Prelude.{◌⊎◌, ℕ, Bool, true, false, List, [], ◌∷◌, ◌++◌, Option, codes, string_bytes}
use Rattle.std.specs.Io.KnownBytes.{Appends}
use Rattle.kr_sink.specs.Puts.{AppendsFront, HasCause}
use Rattle.kr_cli.specs.declared.endings.Ending.{Ending}
use Rattle.kr_cli.specs.declared.endings.Ending.TheVariants.{NotUnderstood, Memory, Place, Output, Told}
use Rattle.kr_cli.specs.Lines.{HasNoLineFeed}

-- Whether a program ends for output that can't be written.
abbrev pub is_output : Ending → Bool
is_output NotUnderstood = false
is_output Memory = false
is_output Place = false
is_output Output = true
is_output (Told line) = false

-- The program ends because memory ran out, or with a line that is told of a word, of which this holds.
abbrev pub MemoryOrTold : Ending → (List ℕ → Type 0) → Type 0
MemoryOrTold NotUnderstood P = ⊥
MemoryOrTold Memory P = Unit {0}
MemoryOrTold Place P = ⊥
MemoryOrTold Output P = ⊥
MemoryOrTold (Told line) P = P (string_bytes line)

-- A task ends without its report, or with a prefix of it: for memory, a place or output, or with a line that is told of a word, of which this holds.
abbrev pub Unreported : (List ℕ → Type 0) → Ending → Type 0
Unreported P NotUnderstood = ⊥
Unreported P Memory = Unit {0}
Unreported P Place = Unit {0}
Unreported P Output = Unit {0}
Unreported P (Told line) = P (string_bytes line)

-- What is told behind the program's name.
abbrev pub line_of : Ending → List ℕ
line_of NotUnderstood = codes "words not understood"
line_of Memory = codes "out of memory"
line_of Place = codes "place refused"
line_of Output = codes "output: cannot be written"
line_of (Told line) = string_bytes line

-- The line of a program that ends so, with its line feed.
abbrev pub ending_line : Ending → List ℕ
ending_line e = codes "kr: " ++ (line_of e ++ 10 ∷ [])

-- What is told where a program ends without its output: the line of the ending, and behind words that aren't understood the usage.
abbrev pub ending_text : (usage : List ℕ) → Ending → List ℕ
ending_text usage NotUnderstood = ending_line NotUnderstood ++ usage
ending_text usage Memory = ending_line Memory
ending_text usage Place = ending_line Place
ending_text usage Output = ending_line Output
ending_text usage (Told line) = ending_line (Told line)

-- A text was written whole; or a prefix of it, and the sink failed.
abbrev pub IsTold : Option (List ℕ) → Option (List ℕ) → ℕ → ℕ → List ℕ → Type 0
IsTold old new before after text = Appends old new text ⊎ (AppendsFront old new text × HasCause before after)

-- One line was written, or a prefix of it: it has no line feed but its last byte.
abbrev pub TellsOneLine : Option (List ℕ) → Option (List ℕ) → Type 0
TellsOneLine old new = (line : List ℕ) × (HasNoLineFeed line × AppendsFront old new (line ++ 10 ∷ []))
