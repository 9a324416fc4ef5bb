use Prim.Native.Nat.{ℕ}
use base.Shift.{Keyless}
use denote.RattleType.{RattleType}
use denote.Param.Send.{IsSync, sendable}
use denote.Struct.Struct.{Struct}
use denote.Struct.Owning.{shape}
use Rattle.std.specs.declared.option.Option.{Option}
use Rattle.std.specs.declared.option.Option.TheVariants.{None, Some}
use Rattle.once_cell.specs.Once.{noted}
use Rattle.kr_records.specs.contracts.known.Known.{the_row, the_type}

noted_keyless : (R : RattleType) (γ : ℕ) (k : Option R.Denot) → Keyless (noted R γ k)
noted_keyless R γ None = tt
noted_keyless R γ (Some x) = tt

pub sync : (T : RattleType) → IsSync (the_row T)
sync T = let fields : IsSync (Struct (shape (the_type T))) = search sendable depth 20 in
    record { shared = λ d b o ν. (fields.shared (tt, tt) b o ν, noted_keyless T d.cell d.known) }
