-- Operations, replies and lists in numbers.
use Rattle.std.specs.Prelude.{◌≡◌, ℕ, length}
use Rattle.kr_model.specs.declared.Name.TheVariants.{Key, End}
use Rattle.kr_model.specs.declared.Op.{Op}
use Rattle.kr_model.specs.declared.Op.TheVariants as op
use Rattle.kr_model.specs.declared.Reply.{Reply}
use Rattle.kr_model.specs.declared.Reply.TheVariants as reply
use Rattle.kr_model.specs.Difference.{refusal_number}
use Rattle.kr_model.specs.Locks as model
use Rattle.kr_embed.specs.declared.numbers.PlainReply.{PlainReply}
use Rattle.kr_embed.specs.declared.numbers.Pair.{Pair}
use Rattle.kr_embed.specs.declared.numbers.Lock.{Lock}

-- The operation of this kind with these operands, of which it may have one, two or none.
abbrev pub IsOperation : ℕ → ℕ → ℕ → Op → Type 0
IsOperation kind first second (op.Fetch k) = (kind ≡ 0) × (k ≡ first)
IsOperation kind first second (op.Scan lo hi) = (kind ≡ 1) × ((lo ≡ first) × (hi ≡ second))
IsOperation kind first second op.Go = kind ≡ 2
IsOperation kind first second (op.Insert k v) = (kind ≡ 3) × ((k ≡ first) × (v ≡ second))
IsOperation kind first second (op.Delete k) = (kind ≡ 4) × (k ≡ first)
IsOperation kind first second (op.Update k v) = (kind ≡ 5) × ((k ≡ first) × (v ≡ second))
IsOperation kind first second op.Commit = kind ≡ 6
IsOperation kind first second op.Abort = kind ≡ 7
IsOperation kind first second op.Back = kind ≡ 8

-- A reply in numbers: its kind, its refusal, its value, and how many pairs or transactions it has.
abbrev pub plain : Reply → PlainReply
plain (reply.Found v) = record { kind = 0; refusal = 0; value = v; count = 0 }
plain reply.None = record { kind = 1; refusal = 0; value = 0; count = 0 }
plain (reply.Going k) = record { kind = 2; refusal = 0; value = k; count = 0 }
plain (reply.Rows rows) = record { kind = 3; refusal = 0; value = 0; count = length rows }
plain reply.Done = record { kind = 4; refusal = 0; value = 0; count = 0 }
plain reply.Duplicate = record { kind = 5; refusal = 0; value = 0; count = 0 }
plain (reply.Deleted v) = record { kind = 6; refusal = 0; value = v; count = 0 }
plain reply.Absent = record { kind = 7; refusal = 0; value = 0; count = 0 }
plain (reply.Updated v) = record { kind = 8; refusal = 0; value = v; count = 0 }
plain reply.Committed = record { kind = 9; refusal = 0; value = 0; count = 0 }
plain reply.Aborted = record { kind = 10; refusal = 0; value = 0; count = 0 }
plain (reply.Undone left) = record { kind = 11; refusal = 0; value = left; count = 0 }
plain (reply.Blocked us) = record { kind = 12; refusal = 0; value = 0; count = length us }
plain (reply.Refused r) = record { kind = 13; refusal = refusal_number r; value = 0; count = 0 }

-- A key and its value.
abbrev pub pair_of : ℕ × ℕ → Pair
pair_of p = record { key = p.0; value = p.1 }

-- A lock: its key, or that its name is infinity, its holder and its mode.
abbrev pub lock_of : model.Lock → Lock
lock_of ((Key k, t), m) = record { key = k; is_end = 0; txn = t; mode = m; unused = 0 }
lock_of ((End, t), m) = record { key = 0; is_end = 1; txn = t; mode = m; unused = 0 }
