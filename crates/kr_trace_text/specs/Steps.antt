-- The steps of a part as a table, as it is written.
use Rattle.std.specs.Prelude.{ℕ, List, [], ◌∷◌, ◌==◌, Bool, true, false, Option, Some, None, codes, decimal, map}
use Rattle.kr_explain_text.specs.Spoken.{op_words}
use Rattle.kr_explain_text.specs.Steps.{table_text, txn_words}
use Rattle.kr_trace_text.specs.declared.steps.LoggedStep.{LoggedStep}
use Rattle.kr_trace_text.specs.Answered.{observed_words}

-- The cells above the steps.
abbrev pub head_cells : List (List ℕ)
head_cells = codes "line" ∷ [] ∷ codes "operation" ∷ codes "answer" ∷ []

-- Whether the line of this number is the one that is marked, if one is.
abbrev pub is_marked : Option ℕ → ℕ → Bool
is_marked None n = false
is_marked (Some line) n = line == n

-- The mark behind the other cells, if there is one.
abbrev pub mark_cells : Bool → List (List ℕ)
mark_cells true = codes "<- differs" ∷ []
mark_cells false = []

-- The cells of a step: the number of its line, its transaction, its operation, the answer, and its mark.
abbrev pub step_cells : Option ℕ → LoggedStep → List (List ℕ)
step_cells marked s =
    decimal s.number ∷ txn_words s.event.txn ∷ op_words s.event.op ∷ observed_words s.observed ∷ mark_cells (is_marked marked s.number)

-- The rows: one above the steps, and one for each step, in order.
abbrev pub step_rows : Option ℕ → List LoggedStep → List (List (List ℕ))
step_rows marked steps = head_cells ∷ map (step_cells marked) steps

-- The table, each row of it behind a line feed.
unfoldable pub steps_text : Option ℕ → List LoggedStep → List ℕ
steps_text marked steps = table_text 5 (step_rows marked steps)
