-- Room for what an operation adds to its transaction.
use Rattle.std.specs.Prelude.{◌≡◌, ℕ, ◌<◌, [], IfSome, Vec}
use Rattle.std.specs.Vec.{vec_len, vec_capacity}
use Rattle.std.specs.declared.alloc.Global.{Global}
use Rattle.kr_model.specs.declared.Op.{Op}
use Rattle.kr_model.specs.declared.Op.TheVariants as op
use Rattle.kr_txn.specs.declared.Standing.{Standing}

-- There is room for what an operation may add to its transaction: one more row of the scan in progress, or a change.
abbrev pub HasRoomIn : Standing → Op → Type 0
HasRoomIn s op.Go = IfSome s.scan (λ c. vec_len c.rows < vec_capacity c.rows)
HasRoomIn s (op.Scan lo hi) = Unit {0}
HasRoomIn s (op.Fetch k) = Unit {0}
HasRoomIn s o = vec_len s.changes < vec_capacity s.changes

-- A scan that begins has no rows yet, and room for the first.
abbrev pub HasFirstRoom : Vec (ℕ × ℕ) Global → Op → Type 0
HasFirstRoom rows (op.Scan lo hi) = (rows.items ≡ []) × (vec_len rows < vec_capacity rows)
HasFirstRoom rows o = Unit {0}
