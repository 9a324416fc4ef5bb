-- A number for each lock state of at most 15 modes, and for each pair of them.
use Rattle.std.specs.Prelude.{ℕ, ◌+◌, ◌*◌, Bool, true, false}
use Rattle.kr_model.specs.declared.KeyUse.{KeyUse}
use Rattle.kr_model.specs.declared.KeyUse.TheVariants as key
use Rattle.kr_model.specs.declared.GapUse.{GapUse}
use Rattle.kr_model.specs.declared.GapUse.TheVariants as gap
use Rattle.kr_model.specs.declared.LockState.{LockState}

abbrev pub key_number : KeyUse → ℕ
key_number key.Free = 0
key_number key.Read = 1
key_number key.Updated = 2
key_number key.Inserted = 3

abbrev pub gap_number : GapUse → ℕ
gap_number gap.Free = 0
gap_number gap.Read = 1
gap_number gap.Deleted = 2

abbrev pub deleted_number : Bool → ℕ
deleted_number false = 0
deleted_number true = 1

abbrev pub state_number : LockState → ℕ
state_number x = x.mode * 24 + key_number x.key * 6 + gap_number x.gap * 2 + deleted_number x.deleted

abbrev pub pair_number : LockState → LockState → ℕ
pair_number x y = state_number x * 384 + state_number y
