-- The tables that words name, with ghosts or without, and why a word names none.
use Rattle.std.specs.Prelude.{◌≡◌, ◌⊎◌, ℕ, List, Option, Some, Ok, Err, true, false, codes}
use Rattle.kr_table.specs.declared.faults.TableFault.{TableFault}
use Rattle.kr_cli.specs.Files.{MayBeTable}
use Rattle.kr_cli.specs.Lines.{told_line, table_fault_text}
use Rattle.kr_cli.specs.Named.{NamesTable, IsTableFault, TellsUnreadable}
use Rattle.kr_ghost_table.specs.declared.faults.GhostTableFault.{GhostTableFault}
use Rattle.kr_ghost_table.specs.Answer.{ghost_data}
use Rattle.kr_ghost_table.specs.Faults as ghost
use Rattle.kr_ghost_table.specs.Reading.{reading, is_of_format_three}
use Rattle.kr_cli.specs.declared.ghost_tables.AnyGhostTable.{AnyGhostTable}
use Rattle.kr_cli.specs.declared.ghost_tables.AnyGhostTable.TheVariants.{RecordGap, RangeGhost, NextKeyGhost, Read}
use Rattle.kr_cli.specs.declared.named.Named.{Named}
use Rattle.kr_cli.specs.declared.named.Named.TheVariants.{Table, Ghosts}
use Rattle.kr_cli.specs.GhostLines.{ghost_fault_text}

-- A word names a table with ghosts: a bundled one has a word of its own, and any other is what bytes that may be had read as.
abbrev pub NamesGhosts : (List ℕ → Option (List ℕ) → Type 0) → List ℕ → AnyGhostTable → Type 0
NamesGhosts may_give word RecordGap = word ≡ codes "@record-gap"
NamesGhosts may_give word RangeGhost = word ≡ codes "@range-ghost"
NamesGhosts may_give word NextKeyGhost = word ≡ codes "@next-key-ghost"
NamesGhosts may_give word (Read t) = (bytes : List ℕ) × (MayBeTable may_give word (Some bytes) × (reading bytes ≡ Ok (ghost_data t)))

-- A word names a table, with ghosts or without.
abbrev pub Names : (List ℕ → Option (List ℕ) → Type 0) → List ℕ → Named → Type 0
Names may_give word (Table t) = NamesTable may_give word t
Names may_give word (Ghosts t) = NamesGhosts may_give word t

-- This is the first of the faults of bytes of format 3 that are no table.
abbrev pub IsGhostFault : List ℕ → GhostTableFault → Type 0
IsGhostFault bytes f = (x : ghost.Fault) × ((ghost.fault_of f ≡ Some x) × (reading bytes ≡ Err x))

-- The line tells the first fault of bytes that may be had for a word and are no table: as one with ghosts where their format is 3, and else as one without.
abbrev pub TellsFault : (List ℕ → Option (List ℕ) → Type 0) → List ℕ → List ℕ → Type 0
TellsFault may_give word line = (bytes : List ℕ) × (MayBeTable may_give word (Some bytes) ×
    (((is_of_format_three bytes ≡ true) × ((f : GhostTableFault) × (IsGhostFault bytes f × (line ≡ told_line word (ghost_fault_text f)))))
    ⊎ ((is_of_format_three bytes ≡ false) × ((f : TableFault) × (IsTableFault bytes f × (line ≡ told_line word (table_fault_text f)))))))

-- The line tells why a word names no table, with ghosts or without.
abbrev pub TellsNone : (List ℕ → Option (List ℕ) → Type 0) → List ℕ → List ℕ → Type 0
TellsNone may_give word line = TellsUnreadable may_give word line ⊎ TellsFault may_give word line
