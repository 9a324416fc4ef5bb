-- What a lock state has to protect, as covers.
use Rattle.std.specs.Prelude.{Bool, true, false, ◌||◌}
use Rattle.kr_model.specs.declared.KeyUse.{KeyUse}
use Rattle.kr_model.specs.declared.KeyUse.TheVariants as key
use Rattle.kr_model.specs.declared.GapUse.{GapUse}
use Rattle.kr_model.specs.declared.GapUse.TheVariants as gap
use Rattle.kr_model.specs.declared.Row.{Row}
use Rattle.kr_model.specs.declared.Side.{Side}
use Rattle.kr_model.specs.declared.LockState.{LockState}
use Rattle.kr_model.specs.declared.Cover.{Cover}
use Rattle.kr_model.specs.declared.Cover.TheVariants.{ReadKey, ReadGap, InsertedKey, DeletedGap, UpdatedKey}
use Rattle.kr_model.specs.Safe.{by_key, by_gap}

-- Whether what was done with a key has this cover.
abbrev pub of_key : KeyUse → Cover → Bool
of_key key.Read ReadKey = true
of_key key.Updated UpdatedKey = true
of_key key.Inserted InsertedKey = true
of_key _ _ = false

-- Whether what was done in a gap has it.
abbrev pub of_gap : GapUse → Cover → Bool
of_gap gap.Read ReadGap = true
of_gap gap.Deleted DeletedGap = true
of_gap _ _ = false

-- What was done with a key that has this cover, and free for a cover of a gap.
abbrev pub key_of : Cover → KeyUse
key_of ReadKey = key.Read
key_of UpdatedKey = key.Updated
key_of InsertedKey = key.Inserted
key_of _ = key.Free

-- What was done in a gap that has it, and free for a cover of a key.
abbrev pub gap_of : Cover → GapUse
gap_of ReadGap = gap.Read
gap_of DeletedGap = gap.Deleted
gap_of _ = gap.Free

-- Whether no other transaction may be granted a request at this row and side, for the sake of this cover.
abbrev pub keeps_out_for : Cover → Row → Side → Bool
keeps_out_for c r s = by_key (key_of c) r s || by_gap (gap_of c) r s

-- The lock state with this cover alone to protect.
abbrev pub only : Cover → LockState → LockState
only c x = record { mode = x.mode; key = key_of c; gap = gap_of c; deleted = x.deleted }

-- Whether a lock with this state has the cover to protect.
abbrev pub protects : LockState → Cover → Bool
protects x c = of_key x.key c || of_gap x.gap c
