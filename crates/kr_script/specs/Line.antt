-- What the line of a script is.
use Rattle.std.specs.Prelude.{ℕ, ◌<◌, ◌^◌, ◌||◌, codes, map, Bool, false, List, [], ◌∷◌, if◌then◌else◌}
use Rattle.serde_json.specs.Data.{Data, array, object, member, no_members}
use Rattle.serde_json.specs.View.{items_of}
use Rattle.serde_json.specs.Written.{compact_text}
use Rattle.kr_model.specs.declared.Op.{Op}
use Rattle.kr_model.specs.declared.Op.TheVariants.{Fetch, Scan, Go, Insert, Delete, Update, Commit, Abort, Back}
use Rattle.kr_model.specs.declared.Event.{Event}
use Rattle.kr_model.specs.Map.{Map}
use Rattle.kr_script.specs.Json.{whole}
use Rattle.kr_script.specs.Pairs.{pairs_data}
use Rattle.kr_script.specs.Steps.{is_later, step_of}
use Rattle.kr_script.specs.Script.{Script}

-- Whether some step has a form that is in format 2 alone.
abbrev pub needs_two : List Event → Bool
needs_two [] = false
needs_two (e ∷ es) = is_later e.op || needs_two es

-- The number of a format: format 2 or format 1.
abbrev pub format_number : Bool → ℕ
format_number two = if two then 2 else 1

-- Steps, in their order.
abbrev pub steps_data : List Event → Data
steps_data es = array (items_of (map step_of es))

-- A script as a document, in format 2 or in format 1.
abbrev pub document_of : Bool → Map → List Event → Data
document_of two ps es = object (member (codes "format") (whole (format_number two)) (member (codes "opening") (pairs_data ps) (member (codes "steps") (steps_data es) no_members)))

-- The text of a script's line: of format 2 where a step needs it, and else of format 1.
abbrev pub line_text : Script → List ℕ
line_text s = compact_text (document_of (needs_two s.steps) s.opening s.steps)

-- That numbers fit their types --

-- A key with its value, of 64 bits each.
abbrev pub PairFits : ℕ × ℕ → Type 0
PairFits p = (p.0 < 2 ^ 64) × (p.1 < 2 ^ 64)

-- The numbers of an operation, of 64 bits each.
abbrev pub OpFits : Op → Type 0
OpFits (Fetch k) = k < 2 ^ 64
OpFits (Scan lo hi) = (lo < 2 ^ 64) × (hi < 2 ^ 64)
OpFits Go = Unit {0}
OpFits (Insert k v) = (k < 2 ^ 64) × (v < 2 ^ 64)
OpFits (Delete k) = k < 2 ^ 64
OpFits (Update k v) = (k < 2 ^ 64) × (v < 2 ^ 64)
OpFits Commit = Unit {0}
OpFits Abort = Unit {0}
OpFits Back = Unit {0}

-- An event, whose transaction's number has 32 bits.
abbrev pub EventFits : Event → Type 0
EventFits e = (e.txn < 2 ^ 32) × OpFits e.op
