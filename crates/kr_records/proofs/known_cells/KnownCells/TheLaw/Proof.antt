-- A `&` to it holds what it knows, which can be had twice. Assumes `Logic`.
use base.Logic.{snd∗}
use base.Before.{before}
use types.Logic.{sem}
use denote.RattleType.{RattleType}
use denote.Param.Laws.{Laws}
use denote.Param.Shared.{copy_shared}
use denote.Struct.Laws.{field_copy}
use denote.Struct.Lending.{of_Lends}
use Rattle.std.specs.contracts.marker.PhantomData as marker
use Rattle.kr_records.specs.Owned.{all_noted}
use Rattle.kr_records.specs.contracts.known_cells.KnownCells as C
use Rattle.kr_records.proofs.Cells.{all_twice}
use Rattle.kr_records.proofs.Lending.{lends_twice}
use Rattle.kr_records.proofs.known_cells.KnownCells.TheLaw.Statement.{statement}

pub shares : (T : RattleType) (L : Laws T) → statement T L
shares T L =
    of_Lends (C.struct T) (C.the_codes T.Denot T.coded (marker.the_row T).coded) (C.the_heap T) (C.the_lent T)
    (λ d p. record { contraction = λ M 𝓤 𝓛 κ. all_twice 𝓛 T d.known; mono = λ M 𝓤 𝓛 κ' κ. snd∗ 𝓤 (sem 𝓛 (before κ' κ)) (sem 𝓛 (all_noted T d.known)) })
    (copy_shared (marker.the_field T) (field_copy (marker.the_type T) tt), tt)
    (λ M 𝓤 𝓛 d p. lends_twice 𝓛 (all_noted T d.known) (all_twice 𝓛 T d.known) (C.the_row T).lives)
