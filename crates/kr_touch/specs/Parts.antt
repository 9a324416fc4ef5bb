-- What an operation comes to for a machine: an end, a change undone, or something that requests locks.
use Rattle.std.specs.Prelude.{ℕ}
use Rattle.kr_model.specs.declared.Op.{Op}
use Rattle.kr_model.specs.declared.Op.TheVariants as op
use Rattle.kr_model.specs.declared.Reply.{Reply}
use Rattle.kr_model.specs.declared.Reply.TheVariants as reply
use Rattle.kr_touch.specs.declared.parts.Ending.{Ending}
use Rattle.kr_touch.specs.declared.parts.Ending.TheVariants as ending
use Rattle.kr_touch.specs.declared.parts.KeyTouch.{KeyTouch}
use Rattle.kr_touch.specs.declared.parts.KeyTouch.TheVariants as key
use Rattle.kr_touch.specs.declared.parts.Touch.{Touch}
use Rattle.kr_touch.specs.declared.parts.Touch.TheVariants as touch
use Rattle.kr_touch.specs.declared.parts.Part.{Part}
use Rattle.kr_touch.specs.declared.parts.Part.TheVariants as part

-- The operation that ends a transaction so.
abbrev pub ended_by : Ending → Op
ended_by ending.Commit = op.Commit
ended_by ending.Abort = op.Abort

-- What an operation answers that ends its transaction.
abbrev pub end_reply : Op → Reply
end_reply op.Abort = reply.Aborted
end_reply _ = reply.Committed

-- The operation that reads or changes a key so.
abbrev pub op_of_key : KeyTouch → Op
op_of_key (key.Fetch k) = op.Fetch k
op_of_key (key.Insert k v) = op.Insert k v
op_of_key (key.Delete k) = op.Delete k
op_of_key (key.Update k v) = op.Update k v

-- The key that is read or changed.
abbrev pub key_of : KeyTouch → ℕ
key_of (key.Fetch k) = k
key_of (key.Insert k v) = k
key_of (key.Delete k) = k
key_of (key.Update k v) = k

-- The operation that requests locks so.
abbrev pub op_of_touch : Touch → Op
op_of_touch (touch.Key x) = op_of_key x
op_of_touch (touch.Scan lo hi) = op.Scan lo hi
op_of_touch touch.Go = op.Go

-- The operation that comes to this.
abbrev pub op_of : Part → Op
op_of (part.End x) = ended_by x
op_of part.Back = op.Back
op_of (part.Touch x) = op_of_touch x
