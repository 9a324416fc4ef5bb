-- The transactions that have ended, as two parts know them.
use Rattle.std.specs.Prelude.{◌≡◌, ℕ, ◌+◌, ◌≤◌, List, [], ◌∷◌, Vec}
use Rattle.std.specs.Vec.{vec_len, vec_capacity}
use Rattle.std.specs.declared.alloc.Global.{Global}
use Rattle.kr_model.specs.Locks.{add_once}
use Rattle.kr_txn.specs.EndedNumbers.{EndedNumbers}

-- The numbers once these have ended after them, one after another.
abbrev pub with_each : List ℕ → List ℕ → List ℕ
with_each numbers [] = numbers
with_each numbers (t ∷ ts) = with_each (add_once t numbers) ts

-- The numbers are those of the list, and both have room for so many more.
pub record AreEndings (ended : EndedNumbers) (order : Vec ℕ Global) (room : ℕ) : Type 0 where
  pub numbers : ended.numbers ≡ with_each [] order.items
  pub ended_room : room ≤ ended.room
  pub order_room : vec_len order + room ≤ vec_capacity order
