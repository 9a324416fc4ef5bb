-- Why bytes are no table.
use Rattle.std.specs.Prelude.{ℕ, codes, List, Option, Some, None, Result, string_bytes}
use Rattle.kr_model.specs.Firsts as firsts
use Rattle.kr_table.specs.declared.faults.TableFault.{TableFault}
use Rattle.kr_table.specs.declared.faults.TableFault.TheVariants as told_as

-- A fault of bytes that are no table, with its path or index.
pub data Fault : Type 0 where
  too_long : Fault
  not_toml : Fault
  format : Fault
  field : List ℕ → Fault
  mode_count : Fault
  mode_name : ℕ → Fault
  compatible : List ℕ → Fault
  convert : List ℕ → Fault
  rule : List ℕ → Fault
  own_not_allowed : List ℕ → Fault

-- Which fault is told, and none where memory ran out.
abbrev pub fault_of : TableFault → Option Fault
fault_of told_as.TooLong = Some too_long
fault_of told_as.NotToml = Some not_toml
fault_of told_as.Format = Some format
fault_of (told_as.Field path) = Some (field (string_bytes path))
fault_of told_as.ModeCount = Some mode_count
fault_of (told_as.ModeName i) = Some (mode_name i)
fault_of (told_as.Compatible path) = Some (compatible (string_bytes path))
fault_of (told_as.Convert path) = Some (convert (string_bytes path))
fault_of (told_as.Rule path) = Some (rule (string_bytes path))
fault_of (told_as.OwnNotAllowed path) = Some (own_not_allowed (string_bytes path))
fault_of told_as.Memory = None

-- The number of a kind of fault.
abbrev pub fault_number : TableFault → ℕ
fault_number told_as.TooLong = 1
fault_number told_as.NotToml = 2
fault_number told_as.Format = 3
fault_number (told_as.Field path) = 4
fault_number told_as.ModeCount = 5
fault_number (told_as.ModeName i) = 6
fault_number (told_as.Compatible path) = 7
fault_number (told_as.Convert path) = 8
fault_number (told_as.Rule path) = 9
fault_number (told_as.OwnNotAllowed path) = 10
fault_number told_as.Memory = 11

-- The name of a kind of fault.
abbrev pub fault_name : TableFault → List ℕ
fault_name told_as.TooLong = codes "TooLong"
fault_name told_as.NotToml = codes "NotToml"
fault_name told_as.Format = codes "Format"
fault_name (told_as.Field path) = codes "Field"
fault_name told_as.ModeCount = codes "ModeCount"
fault_name (told_as.ModeName i) = codes "ModeName"
fault_name (told_as.Compatible path) = codes "Compatible"
fault_name (told_as.Convert path) = codes "Convert"
fault_name (told_as.Rule path) = codes "Rule"
fault_name (told_as.OwnNotAllowed path) = codes "OwnNotAllowed"
fault_name told_as.Memory = codes "Memory"

-- What is told is the first of these faults, or memory ran out.
abbrev pub Tells : TableFault → List Fault → Type 0
Tells e fs = firsts.Tells fault_of e fs

-- A test passes where there are none of these faults, and else tells the first.
abbrev pub Passes : Result (Unit {0}) TableFault → List Fault → Type 0
Passes r fs = firsts.Passes fault_of r fs
