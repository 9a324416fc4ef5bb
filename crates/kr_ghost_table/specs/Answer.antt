-- What the calls that read a table with ghosts answer.
use Rattle.std.specs.Prelude.{◌≡◌, Result, Ok, Err, IfSome}
use Rattle.kr_ghost_table.specs.declared.table.GhostTable.{GhostTable}
use Rattle.kr_ghost_table.specs.declared.faults.GhostTableFault.{GhostTableFault}
use Rattle.kr_ghost_table.specs.Tables.{GhostData}
use Rattle.kr_ghost_table.specs.Faults.{Fault, fault_of}
use Rattle.kr_ghost_table.specs.Shown.{data_of}

-- What a table says. Two tables are the same where this is equal.
abbrev pub ghost_data : GhostTable → GhostData
ghost_data t = data_of t.table t.revive t.revive_next t.vain t.heirs

-- The answer is the reading, unless memory ran out.
abbrev pub Gives : Result GhostTable GhostTableFault → Result GhostData Fault → Type 0
Gives (Ok t) r = r ≡ Ok (ghost_data t)
Gives (Err e) r = IfSome (fault_of e) (λ f. r ≡ Err f)
