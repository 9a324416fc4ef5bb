-- Why a table with ghosts keeps the laws of a protocol.
use Rattle.std.specs.Prelude.{◌≡◌, ℕ, ◌≤◌, List, Option, Some, None, refl}
use Rattle.kr_model.specs.Protocol.{Protocol, IsLawful}
use Rattle.kr_table.specs.Tables.{Request, protocol_of}
use Rattle.kr_ghost.specs.declared.vain.Vain.{Vain}
use Rattle.kr_ghost.specs.Protocol.{IsLawfulGhost, IsLawfulPurge, AsksMode, heir_of}
use Rattle.kr_ghost_table.specs.Tables.{GhostData, ghost_protocol_of, purges_of, next_of, vain_row}

-- What an insert of a ghost and each vain step request is a mode.
pub record AsksModes (x : GhostData) : Type 0 where
  pub revive : AsksMode (protocol_of x.table) x.revive
  pub revive_next : AsksMode (protocol_of x.table) x.revive_next
  pub vain : (v : Vain) (asked : Request) → vain_row x.vain v ≡ Some asked → AsksMode (protocol_of x.table) asked
  pub insert_hit_next : AsksMode (protocol_of x.table) (next_of x.vain.insert_hit)

-- Each heir is a mode or none.
abbrev pub LeavesModes : Protocol → Option (List ℕ) → Type 0
LeavesModes p o = (h : ℕ) → h ≤ p.count → heir_of (purges_of o) h ≤ p.count

lawful_purge : (p : Protocol) (o : Option (List ℕ)) → LeavesModes p o → IsLawfulPurge p (purges_of o)
lawful_purge p None leaves = tt
lawful_purge p (Some hs) leaves = (refl, leaves)

pub lawful_ghosts_of : (x : GhostData) → IsLawful (protocol_of x.table) → AsksModes x → LeavesModes (protocol_of x.table) x.purge → IsLawfulGhost (ghost_protocol_of x)
lawful_ghosts_of x lawful asks leaves =
    record { table = lawful; revive = asks.revive; revive_next = asks.revive_next; vain = asks.vain; insert_hit_next = asks.insert_hit_next; purges = lawful_purge (protocol_of x.table) x.purge leaves }
