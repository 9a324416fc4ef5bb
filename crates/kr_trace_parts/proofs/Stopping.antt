-- An ending before a trace is through.
use Rattle.std.specs.Prelude.{◌≡◌, ℕ, List, ◌⊎◌, string_bytes}
use Rattle.std.proofs.Common.{subst, sym, inl, inr}
use Rattle.kr_cli.specs.declared.endings.Ending.{Ending}
use Rattle.kr_cli.specs.declared.endings.Ending.TheVariants.{NotUnderstood, Memory, Place, Output, Told}
use Rattle.kr_cli.specs.Endings.{MemoryOrTold}
use Rattle.kr_trace_parts.specs.Endings.{StopsSo}

-- An ending that tells more of what it tells.
pub stops_more : (Tells More : List ℕ → Type 0) (e : Ending) → ((line : List ℕ) → Tells line → More line) → StopsSo Tells e → StopsSo More e
stops_more Tells More NotUnderstood by h = absurd h
stops_more Tells More Memory by h = tt
stops_more Tells More Place by h = absurd h
stops_more Tells More Output by h = tt
stops_more Tells More (Told line) by h = by (string_bytes line) h

-- An ending of a word that isn't read.
pub word_stops : (Tells More : List ℕ → Type 0) (e : Ending) → ((line : List ℕ) → Tells line → More line) → MemoryOrTold e Tells → StopsSo More e
word_stops Tells More NotUnderstood by h = absurd h
word_stops Tells More Memory by h = tt
word_stops Tells More Place by h = absurd h
word_stops Tells More Output by h = absurd h
word_stops Tells More (Told line) by h = by (string_bytes line) h

-- Memory and printing tell nothing.
pub stops_silent : (Tells : List ℕ → Type 0) (e : Ending) → (e ≡ Memory) ⊎ (e ≡ Output) → StopsSo Tells e
stops_silent Tells e (inl memory) = let P : Ending → Type 0 = λ x. StopsSo Tells x in subst P (sym memory) tt
stops_silent Tells e (inr output) = let P : Ending → Type 0 = λ x. StopsSo Tells x in subst P (sym output) tt
