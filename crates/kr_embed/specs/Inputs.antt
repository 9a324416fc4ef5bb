-- The table and the script that bytes are, and why they are none.
use Rattle.std.specs.Prelude.{◌≡◌, ◌⊎◌, ℕ, true, false, List, Ok, codes, string_bytes}
use Rattle.kr_table.specs.declared.faults.TableFault.{TableFault}
use Rattle.kr_table.specs.Answer.{table_data}
use Rattle.kr_table.specs.Reading as gone
use Rattle.kr_ghost_table.specs.declared.faults.GhostTableFault.{GhostTableFault}
use Rattle.kr_ghost_table.specs.Answer.{ghost_data}
use Rattle.kr_ghost_table.specs.Reading as ghost
use Rattle.kr_script.specs.declared.faults.ScriptFault.{ScriptFault}
use Rattle.kr_cli.specs.declared.tables.AnyTable.{AnyTable}
use Rattle.kr_cli.specs.declared.tables.AnyTable.TheVariants.{Kvl, KvlUpdate, Im, RangeKey, Read}
use Rattle.kr_cli.specs.declared.ghost_tables.AnyGhostTable.{AnyGhostTable}
use Rattle.kr_cli.specs.declared.ghost_tables.AnyGhostTable.TheVariants as leaving
use Rattle.kr_cli.specs.declared.named.Named.{Named}
use Rattle.kr_cli.specs.declared.named.Named.TheVariants.{Table, Ghosts}
use Rattle.kr_cli.specs.Lines.{told_line, table_fault_text, script_fault_text}
use Rattle.kr_cli.specs.GhostLines.{ghost_fault_text}
use Rattle.kr_cli.specs.Named.{IsTableFault, IsScriptFault}
use Rattle.kr_cli.specs.NamedTables.{IsGhostFault}
use Rattle.kr_cli.specs.GhostScripts.{IsGhostScriptFault}
use Rattle.kr_embed.specs.declared.faults.Fault.{Fault}
use Rattle.kr_embed.specs.declared.faults.Fault.TheVariants.{NoTable, NoScript, Memory}

-- Tables --

-- The bytes are the word of a bundled table without ghosts, or read as this one.
abbrev pub IsGone : List ℕ → AnyTable → Type 0
IsGone bytes Kvl = bytes ≡ codes "@kvl"
IsGone bytes KvlUpdate = bytes ≡ codes "@kvl-update"
IsGone bytes Im = bytes ≡ codes "@im"
IsGone bytes RangeKey = bytes ≡ codes "@range-key"
IsGone bytes (Read t) = gone.reading bytes ≡ Ok (table_data t)

-- The bytes are the word of a bundled table with ghosts, or read as this one.
abbrev pub IsLeaving : List ℕ → AnyGhostTable → Type 0
IsLeaving bytes leaving.RecordGap = bytes ≡ codes "@record-gap"
IsLeaving bytes leaving.RangeGhost = bytes ≡ codes "@range-ghost"
IsLeaving bytes leaving.NextKeyGhost = bytes ≡ codes "@next-key-ghost"
IsLeaving bytes (leaving.Read t) = ghost.reading bytes ≡ Ok (ghost_data t)

-- The bytes are this table, with ghosts or without.
abbrev pub IsTable : List ℕ → Named → Type 0
IsTable bytes (Table t) = IsGone bytes t
IsTable bytes (Ghosts t) = IsLeaving bytes t

-- The line tells the first fault of bytes that are no table, as of a file named `table`: as one with ghosts where their format is 3, and else as one without.
abbrev pub TellsNoTable : List ℕ → List ℕ → Type 0
TellsNoTable bytes line =
    ((ghost.is_of_format_three bytes ≡ true) × ((f : GhostTableFault) × (IsGhostFault bytes f × (line ≡ told_line (codes "table") (ghost_fault_text f)))))
    ⊎ ((ghost.is_of_format_three bytes ≡ false) × ((f : TableFault) × (IsTableFault bytes f × (line ≡ told_line (codes "table") (table_fault_text f)))))

-- Scripts --

-- The line tells the first fault of bytes that are no script, as of a file named `script`.
abbrev pub TellsNoGoneScript : List ℕ → List ℕ → Type 0
TellsNoGoneScript bytes line = (f : ScriptFault) × (IsScriptFault bytes f × (line ≡ told_line (codes "script") (script_fault_text f)))

-- The same of bytes that are no script which may have purges.
abbrev pub TellsNoGhostScript : List ℕ → List ℕ → Type 0
TellsNoGhostScript bytes line = (f : ScriptFault) × (IsGhostScriptFault bytes f × (line ≡ told_line (codes "script") (script_fault_text f)))

-- The same of bytes that are no script for a table: under one with ghosts a script may have purges.
abbrev pub TellsNoScript : Named → List ℕ → List ℕ → Type 0
TellsNoScript (Table t) bytes line = TellsNoGoneScript bytes line
TellsNoScript (Ghosts t) bytes line = TellsNoGhostScript bytes line

-- Faults --

-- Why bytes are taken for no table: a fault of them, or memory ran out.
abbrev pub ExplainsTable : List ℕ → Fault → Type 0
ExplainsTable bytes (NoTable line) = TellsNoTable bytes (string_bytes line)
ExplainsTable bytes (NoScript line) = ⊥
ExplainsTable bytes Memory = Unit {0}

-- Why bytes are taken for no script, of which a line says this: a fault of them, or memory ran out.
abbrev pub ExplainsScriptBy : (List ℕ → Type 0) → Fault → Type 0
ExplainsScriptBy Tells (NoTable line) = ⊥
ExplainsScriptBy Tells (NoScript line) = Tells (string_bytes line)
ExplainsScriptBy Tells Memory = Unit {0}

-- Why bytes are taken for no script, with purges or without, or for none that a table takes.
abbrev pub ExplainsGoneScript : List ℕ → Fault → Type 0
ExplainsGoneScript bytes = ExplainsScriptBy (TellsNoGoneScript bytes)

abbrev pub ExplainsGhostScript : List ℕ → Fault → Type 0
ExplainsGhostScript bytes = ExplainsScriptBy (TellsNoGhostScript bytes)

abbrev pub ExplainsScript : Named → List ℕ → Fault → Type 0
ExplainsScript t bytes = ExplainsScriptBy (TellsNoScript t bytes)

-- Why bytes are taken for no table with a script. A fault of the script is told only where there is a table.
abbrev pub Explains : List ℕ → List ℕ → Fault → Type 0
Explains table script (NoTable line) = TellsNoTable table (string_bytes line)
Explains table script (NoScript line) = (t : Named) × (IsTable table t × TellsNoScript t script (string_bytes line))
Explains table script Memory = Unit {0}
