use denote.RattleType.{RattleType}
use denote.Param.Send.{IsSync, sendable}
use denote.Struct.Struct.{Struct}
use denote.Struct.Owning.{shape}
use Rattle.kr_records.specs.contracts.known_cells.KnownCells.{the_row, the_type}
use Rattle.kr_records.proofs.Cells.{all_keyless}

pub sync : (T : RattleType) → IsSync (the_row T)
sync T = let fields : IsSync (Struct (shape (the_type T))) = search sendable depth 20 in
    record { shared = λ d b o ν. (fields.shared (tt, tt) b o ν, all_keyless T d.known) }
