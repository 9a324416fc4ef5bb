-- What the tables with ghosts that words name are.
use Rattle.std.specs.Prelude.{ℕ, List}
use Rattle.kr_model.specs.ModeNames.{range_key_names}
use Rattle.kr_ghost.specs.Protocol.{GhostProtocol}
use Rattle.kr_ghost.specs.Tables.{record_gap, range_ghost, next_key_ghost}
use Rattle.kr_ghost_protocol.specs.Names.{record_gap_names, next_key_ghost_names}
use Rattle.kr_ghost_table.specs.Tables.{ghost_protocol_of}
use Rattle.kr_ghost_table.specs.Answer.{ghost_data}
use Rattle.kr_cli.specs.declared.ghost_tables.AnyGhostTable.{AnyGhostTable}
use Rattle.kr_cli.specs.declared.ghost_tables.AnyGhostTable.TheVariants.{RecordGap, RangeGhost, NextKeyGhost, Read}

-- The protocol that a table is, with what it says of ghosts.
abbrev pub ghosts_of : AnyGhostTable → GhostProtocol
ghosts_of RecordGap = record_gap
ghosts_of RangeGhost = range_ghost
ghosts_of NextKeyGhost = next_key_ghost
ghosts_of (Read t) = ghost_protocol_of (ghost_data t)

-- The names of its modes.
abbrev pub names_of : AnyGhostTable → List (List ℕ)
names_of RecordGap = record_gap_names
names_of RangeGhost = range_key_names
names_of NextKeyGhost = next_key_ghost_names
names_of (Read t) = (ghost_data t).table.modes.names
