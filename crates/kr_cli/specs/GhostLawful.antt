-- Each table with ghosts that a word names is lawful, and its modes have names.
use Rattle.std.specs.Prelude.{refl}
use Rattle.kr_model.specs.ModeNames.{AreModeNames}
use Rattle.kr_model.proofs.Bundled.{range_key_named}
use Rattle.kr_model.proofs.NamesTested.{named_by_test}
use Rattle.kr_ghost.specs.Protocol.{IsLawfulGhost}
use Rattle.kr_ghost.proofs.Bundled.{record_gap_lawful, range_ghost_lawful, next_key_ghost_lawful}
use Rattle.kr_ghost_protocol.specs.Names.{record_gap_names, next_key_ghost_names}
use Rattle.kr_ghost_table.specs.Answer.{ghost_data}
use Rattle.kr_ghost_table.specs.Lawful as read
use Rattle.kr_cli.specs.declared.ghost_tables.AnyGhostTable.{AnyGhostTable}
use Rattle.kr_cli.specs.declared.ghost_tables.AnyGhostTable.TheVariants.{RecordGap, RangeGhost, NextKeyGhost, Read}
use Rattle.kr_cli.specs.GhostTables.{ghosts_of, names_of}

pub lawful_ghosts_of : (t : AnyGhostTable) → IsLawfulGhost (ghosts_of t)
lawful_ghosts_of RecordGap = record_gap_lawful
lawful_ghosts_of RangeGhost = range_ghost_lawful
lawful_ghosts_of NextKeyGhost = next_key_ghost_lawful
lawful_ghosts_of (Read t) = read.lawful_ghosts_of (ghost_data t) t.table.lawful t.asks t.leaves

pub named_of : (t : AnyGhostTable) → AreModeNames (names_of t) (ghosts_of t).table.count
named_of RecordGap = named_by_test record_gap_names 11 refl
named_of RangeGhost = range_key_named
named_of NextKeyGhost = named_by_test next_key_ghost_names 5 refl
named_of (Read t) = t.table.named
