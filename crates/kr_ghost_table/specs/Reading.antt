-- What a document of format 3 says, and what bytes read as.
use Rattle.std.specs.Prelude.{ℕ, ℤ, pos, codes, List, ◌&&◌, length, map, Bool, true, false, nat_lt, nat_le, if◌then◌else◌, Option, Some, None, is_some, Result, Ok, Err}
use Rattle.std.specs.Ordering.{int_eq}
use Rattle.toml.specs.Data.{Data, Members, get, as_table}
use Rattle.kr_model.specs.Firsts.{first}
use Rattle.kr_table.specs.Faults.{too_long, not_toml}
use Rattle.kr_table.specs.Members.{modes_in, data_in, integer_in}
use Rattle.kr_table.specs.Tables.{Request}
use Rattle.kr_table.specs.Reading.{number, text_of, asked, clauses_of, table_of_parts, document}
use Rattle.kr_ghost_table.specs.declared.vain.Sides.{Sides}
use Rattle.kr_ghost_table.specs.declared.vain.VainRows.{VainRows}
use Rattle.kr_ghost_table.specs.Faults.{Fault, table}
use Rattle.kr_ghost_table.specs.DocumentFaults.{faults}
use Rattle.kr_ghost_table.specs.Tables.{GhostData}

-- The heir of a mode. The word `none` is the name of no mode, and gives 0.
abbrev pub heir : List (List ℕ) → Data → List ℕ → ℕ
heir modes purge mode = number modes (text_of (get mode purge))

-- The heir of each mode, if `purge` is a table.
abbrev pub table_heirs : List (List ℕ) → Data → Option Members → Option (List ℕ)
table_heirs modes purge None = None
table_heirs modes purge (Some ms) = Some (map (heir modes purge) modes)

-- The heir of each mode, and nothing where a purge waits until there is no lock.
abbrev pub heirs : List (List ℕ) → Data → Option (List ℕ)
heirs modes purge = table_heirs modes purge (as_table purge)

-- What a row requests at a side, and nothing where `rules` hasn't the row.
abbrev pub row_in : List (List ℕ) → Data → List ℕ → List ℕ → Option Request
row_in modes rules row side = if is_some (get row rules) then Some (asked modes (clauses_of rules row side) (codes "none")) else None

-- The same of a row with both sides.
abbrev pub sides_in : List (List ℕ) → Data → List ℕ → Option Sides
sides_in modes rules row =
    if is_some (get row rules)
    then Some (record { current = asked modes (clauses_of rules row (codes "current")) (codes "none"); next = asked modes (clauses_of rules row (codes "next")) (codes "none") }) else None

-- What the rows of the vain steps request.
abbrev pub vain_rows_in : List (List ℕ) → Data → VainRows
vain_rows_in modes rules = record {
  insert_hit = sides_in modes rules (codes "insert-hit");
  delete_miss = row_in modes rules (codes "delete-miss") (codes "next");
  update_miss = row_in modes rules (codes "update-miss") (codes "next");
}

-- The table of modes of these names, by `compatible`, `convert`, `rules` and `purge`.
abbrev pub table_of_members : List (List ℕ) → Data → Data → Data → Data → GhostData
table_of_members modes compatible convert rules purge = record {
  table = table_of_parts true modes compatible convert rules;
  revive = asked modes (clauses_of rules (codes "revive") (codes "current")) (codes "none");
  revive_next = asked modes (clauses_of rules (codes "revive") (codes "next")) (codes "none");
  vain = vain_rows_in modes rules;
  purge = heirs modes purge;
}

-- The table that a document with no faults is.
abbrev pub table_of : Data → GhostData
table_of d = table_of_members (modes_in d) (data_in (codes "compatible") d) (data_in (codes "convert") d) (data_in (codes "rules") d) (data_in (codes "purge") d)

-- The fault, if there is one, and else the table.
abbrev pub unless_faulty : Option Fault → GhostData → Result GhostData Fault
unless_faulty None x = Ok x
unless_faulty (Some f) x = Err f

-- What a document reads as.
abbrev pub judged : Data → Result GhostData Fault
judged d = unless_faulty (first (faults d)) (table_of d)

-- What a document reads as, if the bytes are one.
abbrev pub reading_of : Option Members → Result GhostData Fault
reading_of None = Err (table not_toml)
reading_of (Some ms) = judged (Data.table ms)

-- What bytes read as: at most 65,536 of them.
abbrev pub reading : List ℕ → Result GhostData Fault
reading bytes = if nat_lt 65536 (length bytes) then Err (table too_long) else reading_of (document bytes)

-- Whether the format is 3.
abbrev pub is_three : Option ℤ → Bool
is_three None = false
is_three (Some z) = int_eq z (pos 3)

-- Whether the format of a document is 3, if the bytes are one.
abbrev pub is_three_of : Option Members → Bool
is_three_of None = false
is_three_of (Some ms) = is_three (integer_in (codes "format") (Data.table ms))

-- Whether bytes are at most 65,536, and a document of format 3, faulty or not.
abbrev pub is_of_format_three : List ℕ → Bool
is_of_format_three bytes = nat_le (length bytes) 65536 && is_three_of (document bytes)
