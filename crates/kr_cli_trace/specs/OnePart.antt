-- One part of a trace as a text.
use Rattle.std.specs.Prelude.{◌≡◌, ◌≢◌, ◌↔◌, ℕ, Bool, IsTrue, List, [], ◌∷◌, ◌++◌, Option, Some, None, codes, decimal, map}
use Rattle.kr_model.specs.Protocol.{Protocol}
use Rattle.kr_model.specs.Map.{Map, IsMap}
use Rattle.kr_trace_lines.specs.declared.deviation.Deviation.{Deviation}
use Rattle.kr_trace_follow.specs.Following.{Following, after_lines, begun}
use Rattle.kr_trace_follow.specs.Lines.{Line}
use Rattle.kr_trace_lines.specs.declared.verdict.TraceVerdict.{TraceVerdict}
use Rattle.kr_trace_text.specs.declared.steps.LoggedStep.{LoggedStep}
use Rattle.kr_trace_text.specs.Verdicts.{verdict_words}
use Rattle.kr_trace_text.specs.Whole.{part_words}
use Rattle.kr_ghost.specs.Protocol.{GhostProtocol}
use Rattle.kr_ghost_follow.specs.Stands.{Follows, HasFollowed}
use Rattle.kr_trace_parts.specs.Committed.{IsVerdict}
use Rattle.kr_trace_parts.specs.Parts.{Part}
use Rattle.kr_trace_parts.specs.Printed.{IsSerialVerdict}
use Rattle.kr_trace_parts.specs.Tales.{committed_in}

-- A step of a part as it is written, and the other way round.
abbrev pub logged : Line → LoggedStep
logged l = record { number = l.number; event = l.event; observed = l.observed }

abbrev pub line_of : LoggedStep → Line
line_of s = record { number = s.number; event = s.event; observed = s.observed }

-- What is written of a part with this number, deviation and verdict: its steps, how the first that deviates differs, and the verdict.
abbrev pub shown_text : List (List ℕ) → ℕ → Part → Option Deviation → TraceVerdict → List ℕ
shown_text names n s d v = part_words names n s.opening (map logged s.steps) d ++ 10 ∷ (verdict_words v ++ 10 ∷ [])

-- The text of a part with this number and deviation, and whether all is well with it.
abbrev pub IsShown : List (List ℕ) → ℕ → Part → Option Deviation → List ℕ → Bool → Type 0
IsShown names n s d text well =
    (v : TraceVerdict) × (IsVerdict s.opening (committed_in s.steps) v × ((text ≡ shown_text names n s d v) × (IsTrue well ↔ ((d ≡ None) × IsSerialVerdict v))))

-- The sentence where states were left out before a line.
abbrev pub left_out_words : ℕ → List ℕ
left_out_words line = codes "States were left out before line " ++ (decimal line ++ codes ": one of them may have this answer.")

-- The line that follows a deviation where states were left out.
abbrev pub cut_words : Option Deviation → Option ℕ → List ℕ
cut_words None cut = []
cut_words (Some d) None = []
cut_words (Some d) (Some line) = left_out_words line ++ 10 ∷ []

-- A part with this number is kept where it is the one that is asked for, and only there.
abbrev pub IsKeptIfAsked : {W : Type 0} → ℕ → Option W → ℕ → Type 0
IsKeptIfAsked asked None n = n ≢ asked
IsKeptIfAsked asked (Some w) n = n ≡ asked

-- The steps are kept, and were followed under the table, and the first deviation is known.
pub record IsWatched (p : Protocol) (s : Part) (own : Protocol) (at : Following) (deviation : Option Deviation) (opening : Map) (steps : List LoggedStep) : Type 0 where
  pub same : own ≡ p
  pub followed : at ≡ after_lines p (begun s.opening) s.steps
  pub deviates : deviation ≡ at.found
  pub opens : opening ≡ s.opening
  pub keeps : steps ≡ map logged s.steps

-- The same under a table with ghosts, and the keys of the opening rise.
pub record IsWatchedGhosts {P : Type 0} (ghosts : P → GhostProtocol) (q : P) (s : Part) (at : Follows P) (deviation : Option Deviation) (opening : Map) (steps : List LoggedStep) : Type 0 where
  pub rising : IsMap s.opening
  pub followed : HasFollowed ghosts q s.opening s.steps at
  pub deviates : deviation ≡ at.found
  pub opens : opening ≡ s.opening
  pub keeps : steps ≡ map logged s.steps
