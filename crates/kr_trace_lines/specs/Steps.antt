-- The line of a step with its reply: the value that it is, and its text; and the replies that a step can have.
use Rattle.std.specs.Prelude.{ℕ, ◌<◌, ◌^◌, Bool, true, false, List, All, Option, Some, None}
use Rattle.serde_json.specs.Data.{Data, array, item, no_items}
use Rattle.serde_json.specs.Written.{compact_text}
use Rattle.kr_model.specs.declared.Op.{Op}
use Rattle.kr_model.specs.declared.Op.TheVariants.{Fetch, Scan, Go, Insert, Delete, Update, Commit, Back}
use Rattle.kr_model.specs.declared.Event.{Event}
use Rattle.kr_script.specs.Line.{PairFits}
use Rattle.kr_script.specs.Steps.{step_of}
use Rattle.kr_trace_lines.specs.declared.observed.Observed.{Observed}
use Rattle.kr_trace_lines.specs.declared.observed.Observed.TheVariants as observed
use Rattle.kr_trace_lines.specs.Replies.{may_block, observed_data}

-- A step, and behind it its reply.
abbrev pub step_data : Event → Observed → Data
step_data e o = array (item (step_of e) (item (observed_data o) no_items))

abbrev pub step_text : Event → Observed → List ℕ
step_text e o = compact_text (step_data e o)

-- Whether a step that did this operation can have this reply.
abbrev pub is_answer : Op → Observed → Bool
is_answer (Fetch k) (observed.Found v) = true
is_answer (Fetch k) observed.None = true
is_answer (Scan lo hi) (observed.Going k) = true
is_answer (Scan lo hi) (observed.Rows rows) = true
is_answer Go (observed.Going k) = true
is_answer Go (observed.Rows rows) = true
is_answer (Insert k v) observed.Done = true
is_answer (Insert k v) observed.Duplicate = true
is_answer (Delete k) (observed.Deleted v) = true
is_answer (Delete k) observed.Absent = true
is_answer (Update k v) (observed.Updated w) = true
is_answer (Update k v) observed.Absent = true
is_answer Commit observed.Committed = true
is_answer Back (observed.Undone n) = true
is_answer _ _ = false

-- Whether a step of this operation can have this reply: each step may end its transaction, and one that requests locks may be blocked.
abbrev pub can_have : Op → Observed → Bool
can_have op observed.Aborted = true
can_have op (observed.Blocked txns) = may_block op
can_have op o = is_answer op o

-- That numbers fit their types --

-- The number of a transaction has 32 bits.
abbrev pub TxnFits : ℕ → Type 0
TxnFits t = t < 2 ^ 32

-- A number that is told has 64 bits.
abbrev pub ToldFits : Option ℕ → Type 0
ToldFits None = Unit {0}
ToldFits (Some n) = n < 2 ^ 64

-- The numbers of a reply.
abbrev pub ObservedFits : Observed → Type 0
ObservedFits (observed.Found v) = v < 2 ^ 64
ObservedFits (observed.Going k) = k < 2 ^ 64
ObservedFits (observed.Rows rows) = All PairFits rows
ObservedFits (observed.Deleted v) = ToldFits v
ObservedFits (observed.Updated v) = ToldFits v
ObservedFits (observed.Undone n) = ToldFits n
ObservedFits (observed.Blocked txns) = All TxnFits txns
ObservedFits _ = Unit {0}
