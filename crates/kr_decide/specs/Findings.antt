-- What is known of the pairs found so far.
use Rattle.std.specs.Prelude.{◌≡◌, ℕ, ◌+◌, ◌<◌, ◌≤◌, Bool, true, false, List, length, slice_index_or, cond}
use Rattle.std.specs.List.{sum_by}
use Rattle.kr_model.specs.declared.Row.{Row}
use Rattle.kr_model.specs.declared.Row.TheVariants as row
use Rattle.kr_model.specs.declared.Side.{Side}
use Rattle.kr_model.specs.declared.Side.TheVariants.{Current}
use Rattle.kr_model.specs.declared.LockState.{LockState}
use Rattle.kr_model.specs.Protocol.{Protocol}
use Rattle.kr_model.specs.Safe.{free, after, MayAsk, MayBeside, is_blocked}
use Rattle.kr_decide.specs.declared.pair.Pair.{Pair}
use Rattle.kr_decide.specs.declared.finding.Found.{Found}
use Rattle.kr_decide.specs.declared.finding.Above.{Above}
use Rattle.kr_decide.specs.declared.finding.Spot.{Spot}
use Rattle.kr_decide.specs.Numbers.{pair_number}
use Rattle.kr_decide.specs.Pairs.{pair_at, AreDerived}

-- The pair of x and y is in the list.
pub record Has (pairs : List Pair) (x y : LockState) : Type 0 where
  pub place : ℕ
  pub within : place < length pairs
  pub own : (pair_at pairs place).own ≡ x
  pub other : (pair_at pairs place).other ≡ y

-- How many pairs haven't been found.
abbrev pub left : List Bool → ℕ
left unseen = sum_by (λ b. cond b 1 0) unseen

-- Each pair of the list comes from pairs before it, and is of modes of the protocol; and what has been seen is in the list.
pub record AreFound (p : Protocol) (pairs : List Pair) (unseen : List Bool) : Type 0 where
  pub derived : AreDerived p pairs
  pub own : (k : ℕ) → (pair_at pairs k).own.mode ≤ p.count
  pub other : (k : ℕ) → (pair_at pairs k).other.mode ≤ p.count
  pub size : length unseen ≡ 147456
  pub seen : (x y : LockState) → x.mode ≤ 15 → y.mode ≤ 15 → slice_index_or unseen (pair_number x y) true ≡ false → Has pairs x y

abbrev pub IsFound : Protocol → Found → Type 0
IsFound p f = AreFound p f.pairs.items f.unseen.items

-- More pairs have been found, and those found before are where they were.
pub record Grows (p : Protocol) (old new : Found) : Type 0 where
  pub found : IsFound p new
  pub longer : length old.pairs.items ≤ length new.pairs.items
  pub kept : (k : ℕ) → k < length old.pairs.items → pair_at new.pairs.items k ≡ pair_at old.pairs.items k
  pub total : length new.pairs.items + left new.unseen.items ≡ length old.pairs.items + left old.unseen.items
  -- no lock state on the next name is new
  pub nexts : new.nexts.items ≡ old.nexts.items

-- It is what the first of the pair at its place has, where the second has nothing.
pub record IsAbove (pairs : List Pair) (a : Above) : Type 0 where
  pub within : a.place < length pairs
  pub state : (pair_at pairs a.place).own ≡ a.state
  pub alone : (pair_at pairs a.place).other ≡ free

-- What two transactions have on a name, and the first on the next name, as the list says.
pub record IsSpot (pairs : List Pair) (s : Spot) : Type 0 where
  pub from : s.from < length pairs
  pub pair : pair_at pairs s.from ≡ s.pair
  pub above : IsAbove pairs s.above

-- What one who has x on a name, and n on the next one, comes to beside y by a request that isn't blocked is in the list.
abbrev pub MovesTo : Protocol → List Pair → LockState → LockState → LockState → Row → Side → Type 0
MovesTo p pairs x y n r s = MayAsk p r s x n → MayBeside p r s y → is_blocked p r s x n y ≡ false → Has pairs (after p r s x n) y

-- Whether what is requested goes by what the transaction has on the next name.
abbrev pub goes_by_next : Row → Side → Bool
goes_by_next row.Insert Current = true
goes_by_next row.Delete Current = true
goes_by_next _ _ = false

-- So it is by each request that doesn't go by the next name,
abbrev pub MovesPlainly : Protocol → List Pair → LockState → LockState → LockState → Type 0
MovesPlainly p pairs x y n = (r : Row) (s : Side) → goes_by_next r s ≡ false → MovesTo p pairs x y n r s

-- by each that does,
abbrev pub MovesByNext : Protocol → List Pair → LockState → LockState → LockState → Type 0
MovesByNext p pairs x y n = (r : Row) (s : Side) → goes_by_next r s ≡ true → MovesTo p pairs x y n r s

-- Nothing on the next name, which is so in the first pair.
abbrev pub nothing_above : Above
nothing_above = record { place = 0; state = free }

-- What stands at a place of the list.
abbrev pub above_at : List Above → ℕ → Above
above_at nexts j = slice_index_or nexts j nothing_above

-- with each of the first n of these on the next name,
abbrev pub MovesByNexts : Protocol → List Pair → List Above → ℕ → LockState → LockState → Type 0
MovesByNexts p pairs nexts n x y = (j : ℕ) → j < n → MovesByNext p pairs x y (above_at nexts j).state

-- and for each of the first n pairs of `from`.
abbrev pub AllMoveByNext : Protocol → List Pair → List Pair → ℕ → LockState → Type 0
AllMoveByNext p pairs from n above = (k : ℕ) → k < n → MovesByNext p pairs (pair_at from k).own (pair_at from k).other above

-- On the next name the two lock states are the same to a request.
abbrev pub IsAlike : LockState → LockState → Type 0
IsAlike x y = (x.mode ≡ y.mode) × (x.gap ≡ y.gap) × (x.deleted ≡ y.deleted)

-- Each of these is one on the next name.
abbrev pub AreNexts : List Pair → List Above → Type 0
AreNexts pairs nexts = (j : ℕ) → j < length nexts → IsAbove pairs (above_at nexts j)

-- A lock state like x is among them.
pub record HasNext (nexts : List Above) (x : LockState) : Type 0 where
  pub place : ℕ
  pub within : place < length nexts
  pub alike : IsAlike (above_at nexts place).state x

-- What comes of x beside y is in the list, with these on the next name.
pub record HasAllOf (p : Protocol) (pairs : List Pair) (nexts : List Above) (x y : LockState) : Type 0 where
  pub turned : Has pairs y x
  pub ended : Has pairs free y
  pub plain : MovesPlainly p pairs x y free
  pub by_next : MovesByNexts p pairs nexts (length nexts) x y

-- And so is x among those on the next name, where it may stand there.
pub record IsFollowed (p : Protocol) (pairs : List Pair) (nexts : List Above) (x y : LockState) : Type 0 where
  pub all : HasAllOf p pairs nexts x y
  pub next : y ≡ free → x.deleted ≡ false → HasNext nexts x

-- The first pair is that of two transactions that have nothing.
pub record IsFirst (pairs : List Pair) : Type 0 where
  pub some : 0 < length pairs
  pub own : (pair_at pairs 0).own ≡ free
  pub other : (pair_at pairs 0).other ≡ free

-- All that comes of each of the first n pairs has been found.
pub record IsGoing (p : Protocol) (f : Found) (n : ℕ) : Type 0 where
  pub found : IsFound p f
  pub first : IsFirst f.pairs.items
  pub nexts : AreNexts f.pairs.items f.nexts.items
  pub followed : (k : ℕ) → k < n → IsFollowed p f.pairs.items f.nexts.items (pair_at f.pairs.items k).own (pair_at f.pairs.items k).other
