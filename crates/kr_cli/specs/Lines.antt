-- What is told of a word on one line.
use Rattle.std.specs.Prelude.{◌≢◌, ℕ, List, ◌++◌, All, false, Option, Some, None, codes, encode_utf8, if◌then◌else◌, string_bytes}
use Rattle.std.specs.Char.{is_control}
use Rattle.std.specs.Fmt.{decimal, digits}
use Rattle.std.specs.List.{flat_map}
use Rattle.std.specs.Str.{chars}
use Rattle.kr_table.specs.declared.faults.TableFault.{TableFault}
use Rattle.kr_table.specs.declared.faults.TableFault.TheVariants as of_table
use Rattle.kr_table.specs.Faults as table
use Rattle.kr_script.specs.declared.faults.ScriptFault.{ScriptFault}
use Rattle.kr_script.specs.declared.faults.ScriptFault.TheVariants as of_script
use Rattle.kr_script.specs.Faults as script

-- How a character stands in a line: a control character as its number in hexadecimal digits, as `\u{a}`.
abbrev pub shown : ℕ → List ℕ
shown c = if is_control c then codes "\\u{" ++ (digits 16 false c ++ codes "}") else encode_utf8 c

-- How a text stands in a line.
abbrev pub on_one_line : List ℕ → List ℕ
on_one_line text = flat_map shown (chars text)

-- The line that tells this of a word.
abbrev pub told_line : List ℕ → List ℕ → List ℕ
told_line word what = on_one_line (word ++ (codes ": " ++ what))

-- A text has no line feed.
abbrev pub HasNoLineFeed : List ℕ → Type 0
HasNoLineFeed text = All (λ byte. byte ≢ 10) text

-- The line for a word whose file can't be read.
abbrev pub unreadable_line : List ℕ → List ℕ
unreadable_line word = told_line word (codes "cannot be read")

-- A fault is told by its number, its name and, where it has one, its place.
abbrev pub fault_text : ℕ → List ℕ → Option (List ℕ) → List ℕ
fault_text number name None = codes "fault " ++ (decimal number ++ (codes " " ++ name))
fault_text number name (Some place) = codes "fault " ++ (decimal number ++ (codes " " ++ (name ++ (codes " at " ++ place))))

-- The place of a table's fault.
abbrev pub table_place : TableFault → Option (List ℕ)
table_place of_table.TooLong = None
table_place of_table.NotToml = None
table_place of_table.Format = None
table_place (of_table.Field path) = Some (string_bytes path)
table_place of_table.ModeCount = None
table_place (of_table.ModeName i) = Some (decimal i)
table_place (of_table.Compatible path) = Some (string_bytes path)
table_place (of_table.Convert path) = Some (string_bytes path)
table_place (of_table.Rule path) = Some (string_bytes path)
table_place (of_table.OwnNotAllowed path) = Some (string_bytes path)
table_place of_table.Memory = None

-- The place of a script's fault.
abbrev pub script_place : ScriptFault → Option (List ℕ)
script_place of_script.TooLong = None
script_place of_script.NotJson = None
script_place of_script.Format = None
script_place (of_script.Field path) = Some (string_bytes path)
script_place (of_script.Opening i) = Some (decimal i)
script_place (of_script.Step i) = Some (decimal i)
script_place (of_script.TooMany path) = Some (string_bytes path)
script_place of_script.Memory = None

-- What is told of a table's fault.
abbrev pub table_fault_text : TableFault → List ℕ
table_fault_text f = fault_text (table.fault_number f) (table.fault_name f) (table_place f)

-- What is told of a script's fault.
abbrev pub script_fault_text : ScriptFault → List ℕ
script_fault_text f = fault_text (script.fault_number f) (script.fault_name f) (script_place f)
