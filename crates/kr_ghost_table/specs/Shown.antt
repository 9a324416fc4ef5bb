-- What the parts of a table with ghosts in memory show.
use Rattle.std.specs.Prelude.{ℕ, List, Option, Some, None, Vec}
use Rattle.std.specs.Global.{Global}
use Rattle.kr_table.specs.declared.table.Table.{Table}
use Rattle.kr_table.specs.Answer.{table_data}
use Rattle.kr_table.specs.Tables.{Request}
use Rattle.kr_ghost_table.specs.declared.vain.VainRows.{VainRows}
use Rattle.kr_ghost_table.specs.Tables.{GhostData}

-- The heirs, if they are kept.
abbrev pub heirs_of : Option (Vec ℕ Global) → Option (List ℕ)
heirs_of None = None
heirs_of (Some hs) = Some hs.items

-- The table, the requests and the heirs, as they are kept.
abbrev pub data_of : Table → Request → Request → VainRows → Option (Vec ℕ Global) → GhostData
data_of table revive revive_next vain heirs = record { table = table_data table; revive = revive; revive_next = revive_next; vain = vain; purge = heirs_of heirs }
