-- What bytes read as: a table, or the first of their faults.
use Rattle.std.specs.Prelude.{ℕ, ◌+◌, codes, List, [], ◌∷◌, ◌++◌, length, map, Bool, true, nat_lt, bytes_eq, if◌then◌else◌, Option, Some, None, unwrap_or, option_and_then, Result, Ok, Err}
use Rattle.std.specs.Str.{is_utf8}
use Rattle.toml.specs.Data.{Data, Items, no_items, item, Members, get, as_str}
use Rattle.toml.specs.Parse.{parse_document}
use Rattle.kr_model.specs.declared.Span.{Span}
use Rattle.kr_model.specs.declared.Span.TheVariants.{Instant, Commit}
use Rattle.kr_model.specs.Firsts.{first}
use Rattle.kr_table.specs.Matrix.{Matrix}
use Rattle.kr_table.specs.Faults.{Fault, too_long, not_toml}
use Rattle.kr_table.specs.Members.{names_of, modes_in, items_in, items_within, data_in, text_in, pair_in}
use Rattle.kr_table.specs.DocumentFaults.{is_mode, faults, updates_in}
use Rattle.kr_table.specs.Tables.{Request, TableData}

-- The modes --

-- The place of a mode's name among these, the first being i, and 0 where it isn't there.
abbrev pub number_from : ℕ → List (List ℕ) → List ℕ → ℕ
number_from i [] name = 0
number_from i (mode ∷ modes) name = if bytes_eq mode name then i else number_from (i + 1) modes name

-- The mode of a name.
abbrev pub number : List (List ℕ) → List ℕ → ℕ
number modes name = number_from 1 modes name

-- f at each pair of a line and a column, line after line.
abbrev pub square : {A : Type 0} → (List ℕ → List ℕ → A) → List (List ℕ) → List (List ℕ) → List A
square f [] columns = []
square f (line ∷ lines) columns = map (f line) columns ++ square f lines columns

-- Whether mode h stands in the entry of mode q.
abbrev pub stands : Data → List ℕ → List ℕ → Bool
stands d q h = is_mode (names_of (items_in q d)) h

-- The text that was found, and the empty one where none was.
abbrev pub text_of : Option Data → List ℕ
text_of o = unwrap_or (option_and_then as_str o) []

-- The mode that stands at h and q.
abbrev pub converts : List (List ℕ) → Data → List ℕ → List ℕ → ℕ
converts modes d h q = number modes (text_of (pair_in d h q))

-- The modes of these names, by the tables `compatible` and `convert`.
abbrev pub matrix_in : List (List ℕ) → Data → Data → Matrix
matrix_in modes compatible convert = record {
  names = modes;
  compatible = square (stands compatible) modes modes;
  conversion = square (converts modes convert) modes modes;
}

-- What is requested --

-- The clauses of a row and side.
abbrev pub clauses_of : Data → List ℕ → List ℕ → Items
clauses_of rules row side = items_in side (data_in row rules)

-- The span of a word.
abbrev pub span_of : List ℕ → Span
span_of word = if bytes_eq word (codes "instant") then Instant else Commit

-- Whether an `own`, if there is one, names the requester's mode.
abbrev pub fits_own : List ℕ → Option Data → Bool
fits_own own None = true
fits_own own (Some d) = is_mode (names_of (items_within d)) own

-- Whether a clause has no `own`, or one that names the requester's mode.
abbrev pub fits : List ℕ → Data → Bool
fits own d = fits_own own (get (codes "own") d)

-- What a clause requests.
abbrev pub request : List (List ℕ) → Data → Request
request modes d = Some (number modes (unwrap_or (text_in (codes "mode") d) []), span_of (unwrap_or (text_in (codes "span") d) []))

-- What the first clause that fits the requester's mode requests.
abbrev pub asked : List (List ℕ) → Items → List ℕ → Request
asked modes no_items own = None
asked modes (item d ds) own = if fits own d then request modes d else asked modes ds own

-- What is requested at each own mode, from 0, for no lock.
abbrev pub asked_each : List (List ℕ) → Items → List Request
asked_each modes ds = map (asked modes ds) (codes "none" ∷ modes)

-- What an update requests, where updates are offered.
abbrev pub asked_update : Bool → List (List ℕ) → Data → Option Request
asked_update u modes rules = if u then Some (asked modes (clauses_of rules (codes "update") (codes "current")) (codes "none")) else None

-- The whole --

-- The table of modes of these names, by `compatible`, `convert` and `rules`, and whether it offers updates.
abbrev pub table_of_parts : Bool → List (List ℕ) → Data → Data → Data → TableData
table_of_parts u modes compatible convert rules = record {
  modes = matrix_in modes compatible convert;
  fetch_hit = asked modes (clauses_of rules (codes "fetch-hit") (codes "current")) (codes "none");
  fetch_miss = asked modes (clauses_of rules (codes "fetch-miss") (codes "next")) (codes "none");
  scan_key = asked modes (clauses_of rules (codes "scan-key") (codes "current")) (codes "none");
  scan_stop = asked modes (clauses_of rules (codes "scan-stop") (codes "next")) (codes "none");
  insert_current = asked_each modes (clauses_of rules (codes "insert") (codes "current"));
  insert_next = asked_each modes (clauses_of rules (codes "insert") (codes "next"));
  delete_current = asked_each modes (clauses_of rules (codes "delete") (codes "current"));
  delete_next = asked_each modes (clauses_of rules (codes "delete") (codes "next"));
  update = asked_update u modes rules;
}

-- The table that a document with no faults is.
abbrev pub table_of : Data → TableData
table_of d = table_of_parts (updates_in d) (modes_in d) (data_in (codes "compatible") d) (data_in (codes "convert") d) (data_in (codes "rules") d)

-- The fault, if there is one, and else the table.
abbrev pub unless_faulty : Option Fault → TableData → Result TableData Fault
unless_faulty None x = Ok x
unless_faulty (Some f) x = Err f

-- What a document reads as.
abbrev pub judged : Data → Result TableData Fault
judged d = unless_faulty (first (faults d)) (table_of d)

-- What a document reads as, if the bytes are one.
abbrev pub reading_of : Option Members → Result TableData Fault
reading_of None = Err not_toml
reading_of (Some ms) = judged (Data.table ms)

-- The document that bytes are, if they are TOML: text in UTF-8 that `toml` doesn't refuse.
abbrev pub document : List ℕ → Option Members
document bytes = if is_utf8 bytes then parse_document bytes else None

-- What bytes read as: at most 65,536 of them.
abbrev pub reading : List ℕ → Result TableData Fault
reading bytes = if nat_lt 65536 (length bytes) then Err too_long else reading_of (document bytes)
