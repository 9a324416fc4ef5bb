-- What is told of a fault of a table with ghosts.
use Rattle.std.specs.Prelude.{ℕ, List, ◌++◌, codes, string_bytes}
use Rattle.kr_cli.specs.Lines.{table_fault_text}
use Rattle.kr_ghost_table.specs.declared.faults.GhostTableFault.{GhostTableFault}
use Rattle.kr_ghost_table.specs.declared.faults.GhostTableFault.TheVariants.{Table, Purge}

-- A fault is told as one of a table without ghosts is: by its number, its name and its place.
abbrev pub ghost_fault_text : GhostTableFault → List ℕ
ghost_fault_text (Table f) = table_fault_text f
ghost_fault_text (Purge path) = codes "fault 12 Purge at " ++ string_bytes path
