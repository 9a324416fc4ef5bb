-- A part of a trace as a text.
use Rattle.std.specs.Prelude.{ℕ, List, [], ◌∷◌, ◌++◌, ◌==◌, Option, Some, None, codes, decimal, flat_map, if◌then◌else◌}
use Rattle.std.specs.Option.{option_map}
use Rattle.kr_explain_text.specs.Spoken.{pairs_words}
use Rattle.kr_trace_lines.specs.declared.deviation.Deviation.{Deviation}
use Rattle.kr_trace_text.specs.declared.steps.LoggedStep.{LoggedStep}
use Rattle.kr_trace_text.specs.Deviations.{deviation_words}
use Rattle.kr_trace_text.specs.Steps.{steps_text}

-- The index with which a part begins.
abbrev pub opening_words : List (ℕ × ℕ) → List ℕ
opening_words [] = codes "The initial index is empty."
opening_words (e ∷ es) = codes "Initial index: " ++ (pairs_words (e ∷ es) ++ codes ".")

-- The number of a part, and the index with which it begins.
abbrev pub beginning_words : ℕ → List (ℕ × ℕ) → List ℕ
beginning_words n opening = codes "Part " ++ (decimal n ++ (codes ". " ++ (opening_words opening ++ codes "\n")))

-- How a step differs, if its line is the one of the deviation.
unfoldable pub differing_words : List (List ℕ) → Deviation → LoggedStep → List ℕ
differing_words names d s = if s.number == d.line then deviation_words names s d.kind else []

-- How the line of the deviation differs.
abbrev pub each_differing : List (List ℕ) → Deviation → List LoggedStep → List ℕ
each_differing names d steps = flat_map (differing_words names d) steps

-- How the steps differ from what the table answers: none does, or the one of this line.
abbrev pub deviations_words : List (List ℕ) → Option Deviation → List LoggedStep → List ℕ
deviations_words names None steps = codes "Each answer is the table's."
deviations_words names (Some d) steps = each_differing names d steps

-- The line that is marked: the one that differs, if one does.
abbrev pub marked_by : Option Deviation → Option ℕ
marked_by d = option_map (λ x. x.line) d

-- A part with this number: the index with which it begins, its steps, and how they differ from what the table answers.
abbrev pub part_words : List (List ℕ) → ℕ → List (ℕ × ℕ) → List LoggedStep → Option Deviation → List ℕ
part_words names n opening steps d =
    beginning_words n opening ++ (steps_text (marked_by d) steps ++ (codes "\n\n" ++ deviations_words names d steps))
