-- Why bytes are no table with ghosts.
use Rattle.std.specs.Prelude.{ℕ, List, Option, Some, option_map, Result, string_bytes}
use Rattle.kr_model.specs.Firsts as firsts
use Rattle.kr_table.specs.Faults as of_table
use Rattle.kr_ghost_table.specs.declared.faults.GhostTableFault.{GhostTableFault}
use Rattle.kr_ghost_table.specs.declared.faults.GhostTableFault.TheVariants as told_as

-- A fault of bytes that are no table with ghosts: one that a table without them has too, or an entry of `purge`, with its path.
pub data Fault : Type 0 where
  table : of_table.Fault → Fault
  purge : List ℕ → Fault

-- Which fault is told, and none where memory ran out.
abbrev pub fault_of : GhostTableFault → Option Fault
fault_of (told_as.Table e) = option_map table (of_table.fault_of e)
fault_of (told_as.Purge path) = Some (purge (string_bytes path))

-- What is told is the first of these faults, or memory ran out.
abbrev pub Tells : GhostTableFault → List Fault → Type 0
Tells e fs = firsts.Tells fault_of e fs

-- A test passes where there are none of these faults, and else tells the first.
abbrev pub Passes : Result (Unit {0}) GhostTableFault → List Fault → Type 0
Passes r fs = firsts.Passes fault_of r fs
