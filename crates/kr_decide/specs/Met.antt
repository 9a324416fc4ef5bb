-- Which pairs of modes schedules bring together, and what is marked of them.
use Rattle.std.specs.Prelude.{◌≡◌, ℕ, ◌+◌, ◌*◌, ◌<◌, Bool, true, false, ◌&&◌, nat_lt, Some, List, length, slice_index_or}
use Rattle.kr_model.specs.declared.Row.{Row}
use Rattle.kr_model.specs.declared.Row.TheVariants.{Insert, Delete}
use Rattle.kr_model.specs.declared.Side.{Side}
use Rattle.kr_model.specs.declared.Side.TheVariants.{Current}
use Rattle.kr_model.specs.declared.Span.{Span}
use Rattle.kr_model.specs.declared.LockState.{LockState}
use Rattle.kr_model.specs.Protocol.{Protocol}
use Rattle.kr_model.specs.Safe.{free, asked, MayAsk, MayBeside, Beside}
use Rattle.kr_decide.specs.declared.pair.Pair.{Pair}
use Rattle.kr_decide.specs.declared.finding.Above.{Above}
use Rattle.kr_decide.specs.declared.met.Met.{Met}
use Rattle.kr_decide.specs.Pairs.{pair_at}
use Rattle.kr_decide.specs.Findings.{above_at, goes_by_next}

-- Of two transactions that can have these lock states on one name, the one with `own` may come to request the mode there, beside the other.
pub record Requests (p : Protocol) (own other : LockState) (mode : ℕ) : Type 0 where
  pub row : Row
  pub side : Side
  pub span : Span
  -- what it has on the next name
  pub next : LockState
  pub beside : Beside p own other
  pub alone : Beside p next free
  pub asks : MayAsk p row side own next
  pub may_beside : MayBeside p row side other
  pub asked : asked p row side own next ≡ Some (mode, span)

-- Some schedule may bring a request that is tested in the converted mode c beside another transaction's lock in mode h on the same name.
pub record IsTested (p : Protocol) (c h : ℕ) : Type 0 where
  pub own : LockState
  pub other : LockState
  pub mode : ℕ
  pub requests : Requests p own other mode
  pub converted : p.convert own.mode mode ≡ c
  pub held : other.mode ≡ h

-- Some transaction that holds mode h on a name, 0 for no lock, may come to request mode m there.
pub record IsAsked (p : Protocol) (h m : ℕ) : Type 0 where
  pub own : LockState
  pub other : LockState
  pub requests : Requests p own other m
  pub held : own.mode ≡ h

-- The pair of a and b is marked in the list, which has a place for each two modes up to 15.
abbrev pub marked : List Bool → ℕ → ℕ → Bool
marked list a b = nat_lt a 16 && (nat_lt b 16 && slice_index_or list (a * 16 + b) false)

-- What is marked is so.
pub record IsSound (p : Protocol) (met : Met) : Type 0 where
  pub tested_size : length met.tested.items ≡ 256
  pub asked_size : length met.asked.items ≡ 256
  pub tested : (c h : ℕ) → marked met.tested.items c h ≡ true → IsTested p c h
  pub asked : (h m : ℕ) → marked met.asked.items h m ≡ true → IsAsked p h m

-- What was marked still is, and all that is marked is so.
pub record Adds (p : Protocol) (old new : Met) : Type 0 where
  pub sound : IsSound p new
  pub tested : (c h : ℕ) → marked old.tested.items c h ≡ true → marked new.tested.items c h ≡ true
  pub asked : (h m : ℕ) → marked old.asked.items h m ≡ true → marked new.asked.items h m ≡ true

-- What a request of mode m brings together is marked: by one who has x, beside another who has y.
pub record IsMarked (p : Protocol) (met : Met) (x y : LockState) (m : ℕ) : Type 0 where
  pub tested : marked met.tested.items (p.convert x.mode m) y.mode ≡ true
  pub asked : marked met.asked.items x.mode m ≡ true

-- So it is of what one who has x on a name, and n on the next one, may come to request at this row and side beside y,
abbrev pub MarksAt : Protocol → Met → Row → Side → LockState → LockState → LockState → Type 0
MarksAt p met r s x y n = MayAsk p r s x n → MayBeside p r s y → (m : ℕ) (span : Span) → asked p r s x n ≡ Some (m, span) → IsMarked p met x y m

-- by each request that doesn't go by the next name,
abbrev pub MarksPlainly : Protocol → Met → LockState → LockState → Type 0
MarksPlainly p met x y = (r : Row) (s : Side) → goes_by_next r s ≡ false → MarksAt p met r s x y free

-- by one of this row, with each of the first n of these on the next name,
abbrev pub MarksByNexts : Protocol → Met → List Above → ℕ → Row → LockState → LockState → Type 0
MarksByNexts p met nexts n r x y = (j : ℕ) → j < n → MarksAt p met r Current x y (above_at nexts j).state

-- by each but inserts of the key,
pub record MarksMost (p : Protocol) (met : Met) (nexts : List Above) (x y : LockState) : Type 0 where
  pub plain : MarksPlainly p met x y
  pub deletes : MarksByNexts p met nexts (length nexts) Delete x y

-- and by each that one who has x beside y may come to make.
pub record MarksAll (p : Protocol) (met : Met) (nexts : List Above) (x y : LockState) : Type 0 where
  pub most : MarksMost p met nexts x y
  pub inserts : MarksByNexts p met nexts (length nexts) Insert x y

-- So it is of each of the first n pairs.
abbrev pub MarksBelow : Protocol → Met → List Pair → List Above → ℕ → Type 0
MarksBelow p met pairs nexts n = (k : ℕ) → k < n → MarksAll p met nexts (pair_at pairs k).own (pair_at pairs k).other

-- Of the two modes that are marked in the list, all but inserts of the key is done.
pub record AreDone (p : Protocol) (met : Met) (nexts : List Above) (done : List Bool) : Type 0 where
  pub size : length done ≡ 256
  pub each : (x y : LockState) → marked done x.mode y.mode ≡ true → MarksMost p met nexts x y
