-- The lock states that one transaction can have on a name, as a list.
use Rattle.std.specs.Prelude.{◌≡◌, ℕ, ◌<◌, List, length, slice_index_or}
use Rattle.kr_model.specs.declared.LockState.{LockState}
use Rattle.kr_model.specs.Protocol.{Protocol}
use Rattle.kr_model.specs.Safe.{free, Beside}

-- The lock state at a place of the list.
abbrev pub state_at : List LockState → ℕ → LockState
state_at states k = slice_index_or states k free

-- It is in the list.
pub record Lists (states : List LockState) (x : LockState) : Type 0 where
  pub place : ℕ
  pub below : place < length states
  pub is : state_at states place ≡ x

-- The list has exactly these.
pub record AreAlone (p : Protocol) (states : List LockState) : Type 0 where
  pub reached : (k : ℕ) → k < length states → Beside p (state_at states k) free
  pub listed : (x : LockState) → Beside p x free → Lists states x
