-- A locking protocol with its kind: whether a deleted key goes at once, or stays in the index as a ghost.
use Rattle.std.specs.Prelude.{◌≡◌, Bool, true, false, None}
use Rattle.kr_model.specs.Protocol.{Protocol, IsLawful}
use Rattle.kr_model.specs.Covers.{IsCovered}
use Rattle.kr_model.specs.Safe.{IsSafe}
use Rattle.kr_ghost.specs.Protocol.{GhostProtocol, IsLawfulGhost, Unlocked}
use Rattle.kr_ghost.specs.Covers.{IsCoveredGhost}
use Rattle.kr_ghost.specs.Safe.{IsSafeGhost}

-- A deleted key goes at once, or it stays as a ghost until it is purged.
pub data IndexProtocol : Type 0 where
  Gone : Protocol → IndexProtocol
  Leaves : GhostProtocol → IndexProtocol

-- Its modes, matrices and rows.
abbrev pub table_of : IndexProtocol → Protocol
table_of (Gone p) = p
table_of (Leaves p) = p.table

-- Whether a deleted key stays as a ghost.
abbrev pub leaves_ghosts : IndexProtocol → Bool
leaves_ghosts (Gone p) = false
leaves_ghosts (Leaves p) = true

-- It is this table, or these tables with ghosts, by its kind.
abbrev pub HasTables : IndexProtocol → Protocol → GhostProtocol → Type 0
HasTables (Gone p) table ghosts = p ≡ table
HasTables (Leaves p) table ghosts = p ≡ ghosts

-- It keeps the laws of its kind.
abbrev pub IsLawfulIndex : IndexProtocol → Type 0
IsLawfulIndex (Gone p) = IsLawful p
IsLawfulIndex (Leaves p) = IsLawfulGhost p

-- All its cases hold.
abbrev pub IsCoveredIndex : IndexProtocol → Type 0
IsCoveredIndex (Gone p) = IsCovered p
IsCoveredIndex (Leaves p) = IsCoveredGhost p

-- It is safe.
abbrev pub IsSafeIndex : IndexProtocol → Type 0
IsSafeIndex (Gone p) = IsSafe p
IsSafeIndex (Leaves p) = IsSafeGhost p

-- A protocol without ghosts, read as one with ghosts: it has no row for a ghost or a vain step, and a purge waits for the locks.
abbrev pub plain_ghosts : Protocol → GhostProtocol
plain_ghosts p = record { table = p; revive = None; revive_next = None; vain = λ v. None; insert_hit_next = None; purges = Unlocked }
