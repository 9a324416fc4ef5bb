-- The table of a run, as it is written.
use Rattle.std.specs.Prelude.{◌≡◌, ℕ, ◌+◌, ◌-◌, max, List, [], ◌∷◌, ◌++◌, ◌==◌, Bool, true, false, if◌then◌else◌, String, Vec, codes, decimal, flat_map, length, map, slice_index_or, string_bytes, take}
use Rattle.std.specs.Global.{Global}
use Rattle.std.specs.List.{enumerate_from, fold, range_with_len}
use Rattle.kr_model.specs.declared.Event.{Event}
use Rattle.kr_model.specs.declared.Reply.{Reply}
use Rattle.kr_model.specs.Locks.{add_once}
use Rattle.kr_model.specs.Protocol.{Protocol}
use Rattle.kr_model.specs.Run.{run}
use Rattle.kr_model.specs.State.{State, start}
use Rattle.kr_model.specs.Step.{step}
use Rattle.kr_explain_runs.specs.declared.counterexample.Counterexample.{Counterexample}
use Rattle.kr_explain_text.specs.Lines.{blanks}
use Rattle.kr_explain_text.specs.Spoken.{op_words, reply_words, locks_words}

-- Rows of cells --

-- Texts.
abbrev pub texts : List (String Global) → List (List ℕ)
texts cells = map (λ c. string_bytes c) cells

-- Rows of texts.
abbrev pub rows_of : List (Vec (String Global) Global) → List (List (List ℕ))
rows_of lines = map (λ l. texts l.items) lines

-- The blanks that fill a cell up to a width.
abbrev pub fill : ℕ → List ℕ → List ℕ
fill width cell = blanks (width - length cell)

-- Whether there are no cells.
abbrev pub is_end : List (List ℕ) → Bool
is_end [] = true
is_end (c ∷ cs) = false

-- A cell with its blanks: the first is on the right of its column; each other is on the left, behind two blanks, and the last is not filled.
abbrev pub cell_words : Bool → Bool → ℕ → List ℕ → List ℕ
cell_words true is_last width cell = fill width cell ++ cell
cell_words false true width cell = codes "  " ++ cell
cell_words false false width cell = codes "  " ++ (cell ++ fill width cell)

-- Cells in their columns, of which the first is in this column.
abbrev pub cells_from : List ℕ → ℕ → List (List ℕ) → List ℕ
cells_from widths k [] = []
cells_from widths k (c ∷ cs) = cell_words (k == 0) (is_end cs) (slice_index_or widths k 0) c ++ cells_from widths (k + 1) cs

-- A row of cells in columns of these widths, behind a line feed and five blanks.
abbrev pub row_text : List ℕ → List (List ℕ) → List ℕ
row_text widths cells = 10 ∷ (blanks 5 ++ cells_from widths 0 cells)

-- The width of a column: the greatest length of its cells.
abbrev pub width_at : List (List (List ℕ)) → ℕ → ℕ
width_at rows k = fold (λ w row. max w (length (slice_index_or row k []))) 0 rows

-- The widths of the first n columns.
abbrev pub widths_of : ℕ → List (List (List ℕ)) → List ℕ
widths_of n rows = map (width_at rows) (range_with_len 0 n)

-- Rows of n cells at most, as a table.
abbrev pub table_text : ℕ → List (List (List ℕ)) → List ℕ
table_text n rows = flat_map (row_text (widths_of n rows)) rows

-- The cells of a schedule --

-- The transactions of the events, each once, rising.
abbrev pub txns_of : List Event → List ℕ
txns_of events = fold (λ txns e. add_once e.txn txns) [] events

-- A transaction, above its column.
abbrev pub txn_words : ℕ → List ℕ
txn_words t = codes "T" ++ decimal t

-- The cells above the steps: above their numbers nothing, and above their operations the transactions.
abbrev pub head_cells : List ℕ → List (List ℕ)
head_cells txns = [] ∷ (map txn_words txns ++ (codes "answer" ∷ codes "locks afterwards" ∷ []))

-- The operation of an event, in the column of its transaction alone.
abbrev pub op_cell : Event → ℕ → List ℕ
op_cell e t = if t == e.txn then op_words e.op else []

-- The last cells of a step: the locks afterwards and its mark. No row ends in an empty cell.
abbrev pub end_cells : List ℕ → List ℕ → List (List ℕ)
end_cells locks mark = if length mark == 0 then (if length locks == 0 then [] else locks ∷ []) else locks ∷ mark ∷ []

-- The cells of a step: its number, its operation in the column of its transaction, its answer, the locks afterwards, and its mark.
abbrev pub row_of : List ℕ → ℕ → Event → Reply → List ℕ → List ℕ → List (List ℕ)
row_of txns n e r locks mark = decimal n ∷ (map (op_cell e) txns ++ (reply_words r ∷ end_cells locks mark))

-- The mark of the step at a place, from 0, where the steps at these places are the one whose lock is too weak, and the one that comes through.
abbrev pub mark_words : ℕ → ℕ → ℕ → List ℕ
mark_words weak let_in place = if place == weak then codes "<- too weak" else if place == let_in then codes "<- let in" else []

-- The schedule --

-- The row of a step under p that is taken in this state.
abbrev pub step_row : Protocol → List (List ℕ) → List ℕ → List ℕ → ℕ → State → Event → List (List ℕ)
step_row p names txns mark n s e = let o = step p s e.txn e.op in row_of txns n e o.0 (locks_words names o.1.locks) mark

-- The row of the step at a place, from 0, of a run from this state: its answer and the locks afterwards are those of the run.
abbrev pub row_at : Protocol → List (List ℕ) → List ℕ → State → List Event → ℕ → ℕ → ℕ × Event → List (List ℕ)
row_at p names txns s events weak let_in e =
    let before = run p s (take e.0 events) in
    step_row p names txns (mark_words weak let_in e.0) (e.0 + 1) before.state e.1

-- The rows of a schedule: one above the steps, and one for each step, in order.
abbrev pub schedule_rows : Protocol → List (List ℕ) → List ℕ → State → List Event → ℕ → ℕ → List (List (List ℕ))
schedule_rows p names txns s events weak let_in = head_cells txns ∷ map (row_at p names txns s events weak let_in) (enumerate_from 0 events)

-- The table of a script's run under p from its opening map, with these names of the modes.
unfoldable pub schedule_text : Protocol → List (List ℕ) → Counterexample → List ℕ
schedule_text p names c =
    let txns = txns_of c.events.items in
    table_text (length txns + 4) (schedule_rows p names txns (start c.opening.items) c.events.items c.weak c.let_in)

-- What is written of a schedule: some prose, its table, and some prose.
pub record IsSchedule (p : Protocol) (names : List (List ℕ)) (c : Counterexample) (text : List ℕ) : Type 0 where
  pub before : List ℕ
  pub behind : List ℕ
  pub written : text ≡ before ++ (schedule_text p names c ++ behind)
