-- What a table with ghosts says, and its meaning as a locking protocol.
use Rattle.std.specs.Prelude.{◌≡◌, ◌==◌, ◌&&◌, ℕ, zero, suc, List, length, All, Bool, true, nat_le, Option, Some, None, is_some, slice_index_or, unwrap_or}
use Rattle.std.specs.List.{list_all}
use Rattle.kr_table.specs.Tables.{Request, TableData, IsTable, protocol_of, asks_mode}
use Rattle.kr_ghost.specs.declared.vain.Vain.{Vain}
use Rattle.kr_ghost.specs.declared.vain.Vain.TheVariants.{InsertHit, DeleteMiss, UpdateMiss}
use Rattle.kr_ghost.specs.Protocol.{GhostProtocol, Purges, Unlocked, Inherit}
use Rattle.kr_ghost_table.specs.declared.vain.Sides.{Sides}
use Rattle.kr_ghost_table.specs.declared.vain.VainRows.{VainRows}

-- The table as one without ghosts, what an insert of a ghost requests on it and on the next name, what the rows of the vain steps request, and the heir of each mode, from 1, or nothing where a purge waits until there is no lock. An heir is 0 where nothing is inherited.
pub record GhostData : Type 0 where
  pub table : TableData
  pub revive : Request
  pub revive_next : Request
  pub vain : VainRows
  pub purge : Option (List ℕ)

-- Its meaning --

-- The heir of a mode; 0 is no lock, and has none.
abbrev pub heir_at : List ℕ → ℕ → ℕ
heir_at hs zero = 0
heir_at hs (suc h) = slice_index_or hs h 0

-- What becomes of the locks on a ghost that is purged.
abbrev pub purges_of : Option (List ℕ) → Purges
purges_of None = Unlocked
purges_of (Some hs) = Inherit (heir_at hs)

-- What a row requests at each side, if the table has it.
abbrev pub current_of : Option Sides → Option Request
current_of None = None
current_of (Some s) = Some s.current

abbrev pub next_of : Option Sides → Request
next_of None = None
next_of (Some s) = s.next

-- What the row of a vain step requests, and nothing where the table hasn't the row.
abbrev pub vain_row : VainRows → Vain → Option Request
vain_row rows InsertHit = current_of rows.insert_hit
vain_row rows DeleteMiss = rows.delete_miss
vain_row rows UpdateMiss = rows.update_miss

-- The protocol that a table is.
abbrev pub ghost_protocol_of : GhostData → GhostProtocol
ghost_protocol_of x = record { table = protocol_of x.table; revive = x.revive; revive_next = x.revive_next; vain = vain_row x.vain; insert_hit_next = next_of x.vain.insert_hit; purges = purges_of x.purge }

-- What holds of every table, as tests --

-- Whether an heir is one of m modes, or none.
abbrev pub is_heir : ℕ → ℕ → Bool
is_heir m h = nat_le h m

-- Whether there is an heir for each of m modes, if there are any, and each is one of these or none.
abbrev pub are_heirs : ℕ → Option (List ℕ) → Bool
are_heirs m None = true
are_heirs m (Some hs) = length hs == m && list_all (is_heir m) hs

-- What a delete requests on its key: the same at each own mode.
abbrev pub delete_of : TableData → Request
delete_of x = slice_index_or x.delete_current 0 None

-- A table that offers updates. Its delete requests the same at each own mode, and nothing on the next name; no request or heir leaves its modes.
pub record IsGhostTable (x : GhostData) : Type 0 where
  pub table : IsTable x.table
  pub updates : is_some x.table.update ≡ true
  pub delete_current : All (λ r. r ≡ delete_of x.table) x.table.delete_current
  pub delete_next : All (λ r. r ≡ None) x.table.delete_next
  pub revive : asks_mode (length x.table.modes.names) x.revive ≡ true
  pub revive_next : asks_mode (length x.table.modes.names) x.revive_next ≡ true
  pub vain : (v : Vain) → asks_mode (length x.table.modes.names) (unwrap_or (vain_row x.vain v) None) ≡ true
  pub insert_hit_next : asks_mode (length x.table.modes.names) (next_of x.vain.insert_hit) ≡ true
  pub heirs : are_heirs (length x.table.modes.names) x.purge ≡ true
