-- What the parts of a mode of locks on records and on gaps stand for.
use Rattle.std.specs.Prelude.{ℕ, Bool, true, false, ◌&&◌, ◌||◌, ◌==◌, if◌then◌else◌}
use Rattle.kr_ghost_protocol.specs.declared.parts.GapPart.{GapPart}
use Rattle.kr_ghost_protocol.specs.declared.parts.GapPart.TheVariants as gap
use Rattle.kr_ghost_protocol.specs.declared.parts.RecordPart.{RecordPart}
use Rattle.kr_ghost_protocol.specs.declared.parts.RecordPart.TheVariants as record_of

-- Whether a part for the gap keeps inserts out of it.
abbrev pub has_gap : GapPart → Bool
has_gap gap.N = false
has_gap gap.G = true
has_gap gap.I = false
has_gap gap.GI = true

-- Whether a part for the gap is for an insert into it.
abbrev pub has_insert : GapPart → Bool
has_insert gap.N = false
has_insert gap.G = false
has_insert gap.I = true
has_insert gap.GI = true

-- The number of a part for the key.
abbrev pub record_number : RecordPart → ℕ
record_number record_of.N = 0
record_number record_of.S = 1
record_number record_of.X = 2

-- Two parts for the key are compatible where one of them is none, or both are shared.
abbrev pub records_ok : ℕ → ℕ → Bool
records_ok q h = q == 0 || h == 0 || (q == 1 && h == 1)

-- Of two parts for the key, the stronger.
abbrev pub record_after : ℕ → ℕ → ℕ
record_after h q = if h == 2 || q == 2 then 2 else if h == 1 || q == 1 then 1 else 0
