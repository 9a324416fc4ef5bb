-- The line that is printed for a part under a table with ghosts.
use Rattle.std.specs.Prelude.{ℕ, decimal, codes, List, [], ◌∷◌, ◌++◌, Option, Some, None, ◌==◌, if◌then◌else◌}
use Rattle.kr_trace_lines.specs.declared.deviation.Deviation.{Deviation}
use Rattle.kr_trace_lines.specs.declared.verdict.TraceVerdict.{TraceVerdict}
use Rattle.kr_trace_lines.specs.Report.{part_text}

-- A text without the brace in front, if it has one.
abbrev pub behind_brace : List ℕ → List ℕ
behind_brace [] = []
behind_brace (c ∷ cs) = if c == 123 then cs else c ∷ cs

-- The member of the line before which states were first left out, with a comma behind it, if any were.
abbrev pub cut_text : Option ℕ → List ℕ
cut_text None = []
cut_text (Some line) = codes "\"cut\":" ++ (decimal line ++ 44 ∷ [])

-- How many states stand, and the line before which states were first left out, if any were; then the members that a part has under a table without ghosts.
abbrev pub ghost_part_text : List (List ℕ) → ℕ → Option Deviation → ℕ → ℕ → Option ℕ → List (List ℕ) → TraceVerdict → List ℕ
ghost_part_text names part d queued states cut tests v =
    codes "{" ++ (cut_text cut ++ (codes "\"states\":" ++ (decimal states ++ 44 ∷ behind_brace (part_text names part d queued tests v))))
