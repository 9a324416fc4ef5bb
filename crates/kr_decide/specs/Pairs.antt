-- Lists of pairs of lock states in which each pair comes from pairs before it, and holes.
use Rattle.std.specs.Prelude.{◌≡◌, ℕ, ◌<◌, true, false, List, length, slice_index_or}
use Rattle.kr_model.specs.declared.Row.{Row}
use Rattle.kr_model.specs.declared.Side.{Side}
use Rattle.kr_model.specs.declared.LockState.{LockState}
use Rattle.kr_model.specs.Protocol.{Protocol}
use Rattle.kr_model.specs.Safe.{free, keeps_out, after, MayAsk, MayBeside, is_blocked, Beside}
use Rattle.kr_decide.specs.declared.pair.Way.{Way}
use Rattle.kr_decide.specs.declared.pair.Way.TheVariants as way
use Rattle.kr_decide.specs.declared.pair.Pair.{Pair}

-- No transaction has anything on the name.
abbrev pub no_pair : Pair
no_pair = record { own = free; other = free; way = way.Start }

-- The pair at a place of the list.
abbrev pub pair_at : List Pair → ℕ → Pair
pair_at pairs k = slice_index_or pairs k no_pair

-- What the first of the pair `from` has, and what it comes to, x, beside y, by a request with what the first of `next` has on the next name.
pub record IsMoved (p : Protocol) (from next : Pair) (r : Row) (s : Side) (x y : LockState) : Type 0 where
  pub alone : next.other ≡ free
  pub asks : MayAsk p r s from.own next.own
  pub beside : MayBeside p r s from.other
  pub granted : is_blocked p r s from.own next.own from.other ≡ false
  pub own : x ≡ after p r s from.own next.own
  pub other : y ≡ from.other

-- The pair of x and y comes about in this way, from the first k pairs of the list.
abbrev pub IsWay : Protocol → List Pair → ℕ → LockState → LockState → Way → Type 0
IsWay p pairs k x y way.Start = (x ≡ free) × (y ≡ free)
IsWay p pairs k x y (way.Turned i) = (i < k) × (x ≡ (pair_at pairs i).other) × (y ≡ (pair_at pairs i).own)
IsWay p pairs k x y (way.Left i) = (i < k) × (x ≡ free) × (y ≡ (pair_at pairs i).other)
IsWay p pairs k x y (way.Moved i r s j) = (i < k) × (j < k) × IsMoved p (pair_at pairs i) (pair_at pairs j) r s x y

-- Each pair of the list comes about in its way, from pairs before it.
abbrev pub AreDerived : Protocol → List Pair → Type 0
AreDerived p pairs = (k : ℕ) → k < length pairs → IsWay p pairs k (pair_at pairs k).own (pair_at pairs k).other (pair_at pairs k).way

-- Of two transactions that have x and y on one name, the one with x, which has n on the next name, may come to request there what y has to keep out, and isn't blocked.
pub record LetsIn (p : Protocol) (r : Row) (s : Side) (x y n : LockState) : Type 0 where
  pub asks : MayAsk p r s x n
  pub kept_out : keeps_out y r s ≡ true
  pub granted : is_blocked p r s x n y ≡ false

-- And two transactions can have these lock states, by the relation of which two can be on one name.
pub record IsReachedHole (p : Protocol) (r : Row) (s : Side) (x y n : LockState) : Type 0 where
  pub beside : Beside p x y
  pub alone : Beside p n free
  pub lets_in : LetsIn p r s x y n
