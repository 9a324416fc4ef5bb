-- What an engine answered, in words.
use Rattle.std.specs.Prelude.{ℕ, List, [], ◌∷◌, ◌++◌, Option, Some, None, codes, decimal}
use Rattle.kr_explain_text.specs.Spoken.{op_words, rows_words, txns_words}
use Rattle.kr_trace_lines.specs.declared.observed.Observed.{Observed}
use Rattle.kr_trace_lines.specs.declared.observed.Observed.TheVariants as observed
use Rattle.kr_trace_text.specs.declared.steps.LoggedStep.{LoggedStep}

-- A word, and behind it the number that the engine gives, if it gives one.
abbrev pub number_words : List ℕ → Option ℕ → List ℕ
number_words word None = word
number_words word (Some n) = word ++ (codes " " ++ decimal n)

-- The word of a blocked step, and behind it those that the engine names as blockers, if it names any.
abbrev pub blocked_words : List ℕ → List ℕ
blocked_words [] = codes "blocked"
blocked_words (t ∷ ts) = codes "blocked by " ++ txns_words (t ∷ ts)

-- What an engine answered, by its word and what the engine gives behind it.
abbrev pub observed_words : Observed → List ℕ
observed_words (observed.Found v) = codes "found " ++ decimal v
observed_words observed.None = codes "none"
observed_words (observed.Going k) = codes "going " ++ decimal k
observed_words (observed.Rows rows) = rows_words rows
observed_words observed.Done = codes "done"
observed_words observed.Duplicate = codes "duplicate"
observed_words (observed.Deleted v) = number_words (codes "deleted") v
observed_words observed.Absent = codes "absent"
observed_words (observed.Updated v) = number_words (codes "updated") v
observed_words (observed.Undone left) = number_words (codes "undone") left
observed_words observed.Committed = codes "committed"
observed_words observed.Aborted = codes "aborted"
observed_words (observed.Blocked txns) = blocked_words txns

-- The number of a line, and whose step it is.
abbrev pub step_words : LoggedStep → List ℕ
step_words s = codes "Line " ++ (decimal s.number ++ (codes ": T" ++ (decimal s.event.txn ++ (codes "'s " ++ op_words s.event.op))))

-- The same, and what the engine answered.
abbrev pub answered_words : LoggedStep → List ℕ
answered_words s = step_words s ++ (codes " was answered " ++ observed_words s.observed)
