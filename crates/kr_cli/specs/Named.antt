-- The scripts and tables that words name, and why a word names none.
use Rattle.std.specs.Prelude.{◌≡◌, ◌⊎◌, ℕ, List, Option, Some, None, Ok, Err, codes}
use Rattle.kr_table.specs.declared.faults.TableFault.{TableFault}
use Rattle.kr_table.specs.Answer.{table_data}
use Rattle.kr_table.specs.Faults as table
use Rattle.kr_table.specs.Reading as of_table
use Rattle.kr_script.specs.declared.faults.ScriptFault.{ScriptFault}
use Rattle.kr_script.specs.Script.{Script}
use Rattle.kr_script.specs.Faults as script
use Rattle.kr_script.specs.Reading as of_script
use Rattle.kr_cli.specs.declared.tables.AnyTable.{AnyTable}
use Rattle.kr_cli.specs.declared.tables.AnyTable.TheVariants.{Kvl, KvlUpdate, Im, RangeKey, Read}
use Rattle.kr_cli.specs.Files.{MayBeHad, MayBeTable, MayBeScript}
use Rattle.kr_cli.specs.Lines.{told_line, unreadable_line, table_fault_text, script_fault_text}

-- Nothing can be read for a word, and the line tells that.
abbrev pub TellsUnreadable : (List ℕ → Option (List ℕ) → Type 0) → List ℕ → List ℕ → Type 0
TellsUnreadable may_give word line = MayBeHad 0 may_give word None × (line ≡ unreadable_line word)

-- Scripts --

-- A word names a script: bytes that may be had for it read as the script.
abbrev pub NamesScript : (List ℕ → Option (List ℕ) → Type 0) → List ℕ → Script → Type 0
NamesScript may_give word s = (bytes : List ℕ) × (MayBeScript may_give word (Some bytes) × (of_script.reading bytes ≡ Ok s))

-- This is the first of the faults of bytes that are no script.
abbrev pub IsScriptFault : List ℕ → ScriptFault → Type 0
IsScriptFault bytes f = (x : script.Fault) × ((script.fault_of f ≡ Some x) × (of_script.reading bytes ≡ Err x))

-- The line tells the first fault of bytes that may be had for a word and are no script.
abbrev pub TellsScriptFault : (List ℕ → Option (List ℕ) → Type 0) → List ℕ → List ℕ → Type 0
TellsScriptFault may_give word line =
    (bytes : List ℕ) × (MayBeScript may_give word (Some bytes) × ((f : ScriptFault) × (IsScriptFault bytes f × (line ≡ told_line word (script_fault_text f)))))

-- The line tells why a word names no script.
abbrev pub TellsNoScript : (List ℕ → Option (List ℕ) → Type 0) → List ℕ → List ℕ → Type 0
TellsNoScript may_give word line = TellsUnreadable may_give word line ⊎ TellsScriptFault may_give word line

-- Tables --

-- A word names a table: a bundled table has a word of its own, and any other is what bytes that may be had read as.
abbrev pub NamesTable : (List ℕ → Option (List ℕ) → Type 0) → List ℕ → AnyTable → Type 0
NamesTable may_give word Kvl = word ≡ codes "@kvl"
NamesTable may_give word KvlUpdate = word ≡ codes "@kvl-update"
NamesTable may_give word Im = word ≡ codes "@im"
NamesTable may_give word RangeKey = word ≡ codes "@range-key"
NamesTable may_give word (Read t) = (bytes : List ℕ) × (MayBeTable may_give word (Some bytes) × (of_table.reading bytes ≡ Ok (table_data t)))

-- This is the first of the faults of bytes that are no table.
abbrev pub IsTableFault : List ℕ → TableFault → Type 0
IsTableFault bytes f = (x : table.Fault) × ((table.fault_of f ≡ Some x) × (of_table.reading bytes ≡ Err x))

-- The line tells the first fault of bytes that may be had for a word and are no table.
abbrev pub TellsTableFault : (List ℕ → Option (List ℕ) → Type 0) → List ℕ → List ℕ → Type 0
TellsTableFault may_give word line =
    (bytes : List ℕ) × (MayBeTable may_give word (Some bytes) × ((f : TableFault) × (IsTableFault bytes f × (line ≡ told_line word (table_fault_text f)))))

-- The line tells why a word names no table.
abbrev pub TellsNoTable : (List ℕ → Option (List ℕ) → Type 0) → List ℕ → List ℕ → Type 0
TellsNoTable may_give word line = TellsUnreadable may_give word line ⊎ TellsTableFault may_give word line
