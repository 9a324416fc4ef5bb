-- When each fault comes.
use Rattle.std.specs.Prelude.{◌≡◌, ℕ, List, IfSome, Ok, Err}
use Rattle.kr_model.specs.Covers.{IsCovered}
use Rattle.kr_table.specs.Faults.{fault_of}
use Rattle.kr_table.specs.Tables.{TableData, protocol_of}
use Rattle.kr_table.specs.Reading.{reading}
use Rattle.kr_example.specs.declared.serial.Fault.{Fault}
use Rattle.kr_example.specs.declared.serial.Fault.TheVariants as fault

-- A fault of the table is that of its bytes, and a table is rejected only where some case of it fails.
abbrev pub Explains : List ℕ → Fault → Type 0
Explains bytes (fault.Table f) = IfSome (fault_of f) (λ x. reading bytes ≡ Err x)
Explains bytes fault.Rejected = (t : TableData) × ((reading bytes ≡ Ok t) × (IsCovered (protocol_of t) → ⊥))
Explains bytes fault.Memory = Unit {0}
