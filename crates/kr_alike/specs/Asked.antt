-- Which requests a transaction may come to make, by the modes that it holds, and these as marks.
use Rattle.std.specs.Prelude.{◌≡◌, ℕ, ◌<◌, ◌/◌, ◌%◌, Bool, true, IsTrue, List, [], ◌∷◌, length, slice_index_or, ◌↔◌}
use Rattle.kr_model.specs.declared.Row.{Row}
use Rattle.kr_model.specs.declared.Row.TheVariants as row
use Rattle.kr_model.specs.declared.Side.{Side}
use Rattle.kr_model.specs.declared.Side.TheVariants.{Current, Next}
use Rattle.kr_model.specs.declared.LockState.{LockState}
use Rattle.kr_model.specs.Protocol.{Protocol}
use Rattle.kr_model.specs.Safe.{free, MayAsk, Beside}
use Rattle.kr_alike.specs.Marks.{by_next}
use Rattle.kr_alike.specs.Coming.{MayBeLeft}

-- One with the lock states x on the name and z on the next one may ask, and goes by mode n there.
abbrev pub Asks : Protocol → Row → Side → LockState → ℕ → LockState → Type 0
Asks p r s x n z = (by_next r s z.mode ≡ n) × MayAsk p r s x z

-- It may with some lock state on the next name.
pub record AsksAbove (p : Protocol) (r : Row) (s : Side) (x : LockState) (n : ℕ) : Type 0 where
  pub next : LockState
  pub reached : Beside p next free
  pub asks : Asks p r s x n next

-- So may one that holds m on the name.
pub record IsAsked (p : Protocol) (r : Row) (s : Side) (m n : ℕ) : Type 0 where
  pub own : LockState
  pub reached : Beside p own free
  pub mode : own.mode ≡ m
  pub above : AsksAbove p r s own n

-- The row and the side with a number.
abbrev pub row_at : ℕ → Row
row_at k = slice_index_or (row.FetchHit ∷ row.FetchMiss ∷ row.ScanKey ∷ row.ScanStop ∷ row.Insert ∷ row.Delete ∷ row.Update ∷ []) k row.Update

abbrev pub side_at : ℕ → Side
side_at k = slice_index_or (Current ∷ Next ∷ []) k Next

-- The request of a place is marked exactly where a transaction may come to make it.
abbrev pub IsMarked : Protocol → List Bool → ℕ → Type 0
IsMarked p marks k = IsTrue (slice_index_or marks k true) ↔ IsAsked p (row_at (k / 512)) (side_at (k / 256 % 2)) (k / 16 % 16) (k % 16)

pub record AreAsked (p : Protocol) (marks : List Bool) : Type 0 where
  pub size : length marks ≡ 3584
  pub marked : (k : ℕ) → k < 3584 → IsMarked p marks k

-- A mode of the protocol is marked exactly where it may be left on an absent key.
pub record AreLeft (p : Protocol) (marks : List Bool) (count : ℕ) : Type 0 where
  pub size : length marks ≡ count
  pub marked : (m : ℕ) → m < count → IsTrue (slice_index_or marks m true) ↔ MayBeLeft p m
