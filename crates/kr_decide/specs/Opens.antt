-- Where a lock lets in what it has to keep out, among the pairs that were found.
use Rattle.std.specs.Prelude.{◌≡◌, ℕ, ◌<◌, ◌↔◌, Bool, true, false, IsTrue, List, length, slice_index_or}
use Rattle.std.specs.List.{Any}
use Rattle.kr_model.specs.declared.Row.{Row}
use Rattle.kr_model.specs.declared.Row.TheVariants.{Delete}
use Rattle.kr_model.specs.declared.Side.TheVariants.{Current}
use Rattle.kr_model.specs.declared.Side.{Side}
use Rattle.kr_model.specs.declared.Cover.{Cover}
use Rattle.kr_model.specs.declared.LockState.{LockState}
use Rattle.kr_model.specs.Protocol.{Protocol}
use Rattle.kr_model.specs.Safe.{free, Beside}
use Rattle.kr_decide.specs.declared.pair.Pair.{Pair}
use Rattle.kr_decide.specs.declared.finding.Above.{Above}
use Rattle.kr_decide.specs.declared.opening.Opening.{Opening}
use Rattle.kr_decide.specs.Protects.{protects, only}
use Rattle.kr_decide.specs.Pairs.{pair_at, LetsIn}
use Rattle.kr_decide.specs.Findings.{IsAbove, above_at, goes_by_next}

-- The second of the pair holds the mode, and has the cover to protect.
abbrev pub IsHeldBy : Cover → ℕ → Pair → Type 0
IsHeldBy c m z = (z.other.mode ≡ m) × (protects z.other c ≡ true)

-- No request that doesn't go by the next name is let in that has to be kept out.
abbrev pub LetsNoneIn : Protocol → LockState → LockState → Type 0
LetsNoneIn p x y = (r : Row) (s : Side) → goes_by_next r s ≡ false → LetsIn p r s x y free → ⊥

-- Nor a delete of the key, with any of the first n of these above.
abbrev pub LetsNoDeleteIn : Protocol → List Above → ℕ → LockState → LockState → Type 0
LetsNoDeleteIn p nexts n x y = (j : ℕ) → j < n → LetsIn p Delete Current x y (above_at nexts j).state → ⊥

-- Whoever has x on the name may come to be granted there what y has to keep out.
pub record OpensAt (p : Protocol) (x y : LockState) : Type 0 where
  pub row : Row
  pub side : Side
  pub next : LockState
  pub alone : Beside p next free
  pub lets_in : LetsIn p row side x y next

-- y has the cover to protect, and whoever has x may come to be granted there what y has to keep out for its sake.
pub record OpensFor (p : Protocol) (c : Cover) (x y : LockState) : Type 0 where
  pub protects : protects y c ≡ true
  pub opens : OpensAt p x (only c y)

-- The opening lets in what y has to keep out, and what is above is in the list.
pub record IsOpening (p : Protocol) (pairs : List Pair) (x y : LockState) (o : Opening) : Type 0 where
  pub lets_in : LetsIn p o.row o.side x y o.above.state
  pub above : IsAbove pairs o.above

-- Of each pair, the list says whether it opens for the cover.
pub record AreOpenings (p : Protocol) (c : Cover) (pairs : List Pair) (opens : List Bool) : Type 0 where
  pub size : length opens ≡ length pairs
  pub each : (k : ℕ) → k < length pairs → IsTrue (slice_index_or opens k false) ↔ OpensFor p c (pair_at pairs k).own (pair_at pairs k).other

-- Some pair of the first n opens, of which the second holds the mode and has the cover to protect.
pub record IsHoledBelow (pairs : List Pair) (opens : List Bool) (c : Cover) (m n : ℕ) : Type 0 where
  pub place : ℕ
  pub within : place < n
  pub open_there : slice_index_or opens place false ≡ true
  pub held : IsHeldBy c m (pair_at pairs place)

-- Some pair of all.
abbrev pub IsHoledIn : List Pair → List Bool → Cover → ℕ → Type 0
IsHoledIn pairs opens c m = IsHoledBelow pairs opens c m (length pairs)

-- Of each of the first n modes, from 0 for no lock, the list says whether it is held.
pub record AreHeld (pairs : List Pair) (c : Cover) (n : ℕ) (list : List Bool) : Type 0 where
  pub size : length list ≡ n
  pub each : (m : ℕ) → m < n → IsTrue (slice_index_or list m false) ↔ Any (IsHeldBy c m) pairs

-- And whether it opens.
pub record AreHoled (pairs : List Pair) (opens : List Bool) (c : Cover) (n : ℕ) (list : List Bool) : Type 0 where
  pub size : length list ≡ n
  pub each : (m : ℕ) → m < n → IsTrue (slice_index_or list m false) ↔ IsHoledIn pairs opens c m

-- The pair at a place opens so.
pub record IsOpenedAt (p : Protocol) (pairs : List Pair) (place : ℕ) (o : Opening) : Type 0 where
  pub within : place < length pairs
  pub opening : IsOpening p pairs (pair_at pairs place).own (pair_at pairs place).other o

-- None of the first n pairs opens.
abbrev pub NoneOpens : Protocol → List Pair → ℕ → Type 0
NoneOpens p pairs n = (k : ℕ) → k < n → OpensAt p (pair_at pairs k).own (pair_at pairs k).other → ⊥
