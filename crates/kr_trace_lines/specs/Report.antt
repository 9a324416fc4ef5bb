-- The line that is printed for a part: the value that it is, and its text.
use Rattle.std.specs.Prelude.{ℕ, Bool, true, false, List, [], ◌∷◌, ◌++◌, codes, map, Option, Some, None, is_some}
use Rattle.serde_json.specs.Data.{Data, Members, string, array, object, item, no_items, member, no_members}
use Rattle.serde_json.specs.View.{items_of}
use Rattle.serde_json.specs.Written.{compact_text}
use Rattle.kr_model.specs.declared.Reply.{Reply}
use Rattle.kr_model.specs.declared.Reply.TheVariants as reply
use Rattle.kr_model.specs.ModeNames.{name_of}
use Rattle.kr_script.specs.Json.{whole}
use Rattle.kr_script.specs.Replies.{after_word, numbers_data, reply_data, name_data}
use Rattle.kr_trace_lines.specs.declared.deviation.Conflict.{Conflict}
use Rattle.kr_trace_lines.specs.declared.deviation.Deviation.{Deviation}
use Rattle.kr_trace_lines.specs.declared.deviation.DeviationKind.{DeviationKind}
use Rattle.kr_trace_lines.specs.declared.deviation.DeviationKind.TheVariants as kind
use Rattle.kr_trace_lines.specs.declared.verdict.TraceVerdict.{TraceVerdict}
use Rattle.kr_trace_lines.specs.declared.verdict.TraceVerdict.TheVariants as verdict
use Rattle.kr_trace_lines.specs.Replies.{observed_data}

-- A held lock that conflicts: its name, its holder and its mode; the line since which it is held in this mode; the mode that the step asks for, and the converted mode, which conflicts.
abbrev pub conflict_data : List (List ℕ) → Conflict → Data
conflict_data names c =
    array (item (name_data c.name) (item (whole c.holder) (item (string (name_of names c.held)) (item (whole c.since)
    (item (string (name_of names c.asked)) (item (string (name_of names c.tested)) no_items))))))

-- Held locks that conflict, in their order.
abbrev pub conflicts_data : List (List ℕ) → List Conflict → Data
conflicts_data names cs = array (items_of (map (conflict_data names) cs))

-- A word, a line's number, and the table's reply.
abbrev pub at_line : List ℕ → ℕ → Reply → Data
at_line word line r = after_word word (item (whole line) (item (reply_data r) no_items))

-- How a line differs: its kind, its number, and what the table has there.
abbrev pub kind_data : List (List ℕ) → ℕ → DeviationKind → Data
kind_data names line (kind.Granted blockers conflicts) =
    after_word (codes "granted") (item (whole line) (item (reply_data (reply.Blocked blockers)) (item (conflicts_data names conflicts) no_items)))
kind_data names line (kind.Blocked r) = at_line (codes "blocked") line r
kind_data names line (kind.Blockers misnamed blockers) =
    after_word (codes "blockers") (item (whole line) (item (numbers_data misnamed) (item (numbers_data blockers) no_items)))
kind_data names line (kind.Answer r) = at_line (codes "answer") line r
kind_data names line (kind.Refused r) = at_line (codes "refused") line (reply.Refused r)

-- The first line of a part that differs from what the table answers.
abbrev pub deviation_data : List (List ℕ) → Deviation → Data
deviation_data names d = kind_data names d.line d.kind

-- Whether a part conforms, or where it first doesn't.
abbrev pub conforms_data : List (List ℕ) → Option Deviation → Data
conforms_data names None = after_word (codes "yes") no_items
conforms_data names (Some d) = deviation_data names d

-- The verdict on a part.
abbrev pub verdict_data : TraceVerdict → Data
verdict_data verdict.Serial = after_word (codes "serial") no_items
verdict_data (verdict.SerialInOrder txns) = after_word (codes "serial") (item (numbers_data txns) no_items)
verdict_data (verdict.NotSerial t operation given serial) =
    after_word (codes "not-serial") (item (whole t) (item (whole operation) (item (observed_data given) (item (reply_data serial) no_items))))
verdict_data verdict.Unknown = after_word (codes "unknown") no_items

-- The texts of a part's head as a member, where the part doesn't conform and has any.
abbrev pub with_tests : Bool → List (List ℕ) → Members → Members
with_tests false tests ms = ms
with_tests true [] ms = ms
with_tests true (t ∷ ts) ms = member (codes "tests") (array (items_of (map string (t ∷ ts)))) ms

-- The text of that member with the comma before it, where there is one.
abbrev pub tests_text : Bool → List (List ℕ) → List ℕ
tests_text false tests = []
tests_text true [] = []
tests_text true (t ∷ ts) = codes ",\"tests\":" ++ compact_text (array (items_of (map string (t ∷ ts))))

-- A part that is held against a table, where the modes have these names.
abbrev pub part_data : List (List ℕ) → ℕ → Option Deviation → ℕ → List (List ℕ) → TraceVerdict → Data
part_data names part d queued tests v =
    object (member (codes "conforms") (conforms_data names d)
    (member (codes "part") (whole part)
    (member (codes "queued") (whole queued)
    (with_tests (is_some d) tests (member (codes "verdict") (verdict_data v) no_members)))))

abbrev pub part_text : List (List ℕ) → ℕ → Option Deviation → ℕ → List (List ℕ) → TraceVerdict → List ℕ
part_text names part d queued tests v = compact_text (part_data names part d queued tests v)

-- A part that is judged with no table.
abbrev pub judged_data : ℕ → TraceVerdict → Data
judged_data part v = object (member (codes "part") (whole part) (member (codes "verdict") (verdict_data v) no_members))

abbrev pub judged_text : ℕ → TraceVerdict → List ℕ
judged_text part v = compact_text (judged_data part v)
