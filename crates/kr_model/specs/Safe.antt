-- When a protocol is safe: what a lock has to protect, which locks two transactions can have on one name at the same time, and that each of them blocks whom it must. It names no key, index or run.
use Rattle.std.specs.Prelude.{◌≡◌, ℕ, ◌≤◌, ◌<◌, Bool, true, false, ◌||◌, ◌⊎◌, Option}
use Rattle.kr_model.specs.declared.Row.{Row}
use Rattle.kr_model.specs.declared.Row.TheVariants.{FetchHit, FetchMiss, ScanKey, ScanStop, Insert, Delete, Update}
use Rattle.kr_model.specs.declared.Side.{Side}
use Rattle.kr_model.specs.declared.Side.TheVariants.{Current, Next}
use Rattle.kr_model.specs.declared.Span.{Span}
use Rattle.kr_model.specs.declared.KeyUse.{KeyUse}
use Rattle.kr_model.specs.declared.KeyUse.TheVariants.{Free as KeyFree, Read as KeyRead, Updated as KeyUpdated, Inserted as KeyInserted}
use Rattle.kr_model.specs.declared.GapUse.{GapUse}
use Rattle.kr_model.specs.declared.GapUse.TheVariants.{Free as GapFree, Read as GapRead, Deleted as GapDeleted}
use Rattle.kr_model.specs.declared.LockState.{LockState}
use Rattle.kr_model.specs.Protocol.{Protocol}
use Rattle.kr_model.specs.Covers.{mode_after, conflicts_with}

-- Lock states --

-- The lock state of a transaction on a name where it has requested nothing.
abbrev pub free : LockState
free = record { mode = 0; key = KeyFree; gap = GapFree; deleted = false }

-- The lock has nothing to protect.
pub record IsIdle (x : LockState) : Type 0 where
  pub key : x.key ≡ KeyFree
  pub gap : x.gap ≡ GapFree

-- What a lock state has to keep out --

-- Whether no other transaction may be granted a request at this row and side, for the sake of the key: a key that was read may not be deleted or updated, one that was updated may not be read either, and of one that was inserted no other may see whether it is there. Updates are listed for every protocol; where it offers none, nobody may request one.
abbrev pub by_key : KeyUse → Row → Side → Bool
by_key KeyRead Delete Current = true
by_key KeyRead Update Current = true
by_key KeyUpdated FetchHit Current = true
by_key KeyUpdated ScanKey Current = true
by_key KeyUpdated Delete Current = true
by_key KeyUpdated Update Current = true
by_key KeyInserted FetchHit Current = true
by_key KeyInserted FetchMiss Next = true
by_key KeyInserted ScanKey Current = true
by_key KeyInserted ScanStop Next = true
by_key KeyInserted Delete Current = true
by_key KeyInserted Delete Next = true
by_key KeyInserted Update Current = true
by_key _ _ _ = false

-- The same for the sake of the gap: into a gap that was read no other may insert, nor delete the key that ends it; and a gap in which a key was deleted no other may read either.
abbrev pub by_gap : GapUse → Row → Side → Bool
by_gap GapRead Insert Next = true
by_gap GapRead Delete Current = true
by_gap GapDeleted FetchMiss Next = true
by_gap GapDeleted ScanKey Current = true
by_gap GapDeleted ScanStop Next = true
by_gap GapDeleted Insert Next = true
by_gap GapDeleted Delete Current = true
by_gap GapDeleted Delete Next = true
by_gap _ _ _ = false

-- Whether no other transaction may be granted a request at this row and side, beside a transaction with the lock state x.
abbrev pub keeps_out : LockState → Row → Side → Bool
keeps_out x r s = by_key x.key r s || by_gap x.gap r s

-- Moves --

-- The own mode on the next name that the request of an insert or delete goes by, where x is the lock state on the requested name and n that on the next name; any other request goes by none. At the side next the two names are one.
abbrev pub given : Row → Side → LockState → LockState → ℕ
given Insert Next x n = x.mode
given Delete Next x n = x.mode
given Insert Current x n = n.mode
given Delete Current x n = n.mode
given _ _ x n = 0

-- The mode and the span requested there, or nothing.
abbrev pub asked : Protocol → Row → Side → LockState → LockState → Option (ℕ × Span)
asked p r s x n = p.ask r s (given r s x n)

-- What has been done with a key once it is read.
abbrev pub and_read : KeyUse → KeyUse
and_read KeyFree = KeyRead
and_read k = k

-- And once it is updated.
abbrev pub and_updated : KeyUse → KeyUse
and_updated KeyInserted = KeyInserted
and_updated _ = KeyUpdated

-- What has been done in a gap, where both of these have: a deletion has to be protected from more than a read.
abbrev pub and_gap : GapUse → GapUse → GapUse
and_gap GapFree h = h
and_gap GapRead GapDeleted = GapDeleted
and_gap GapRead _ = GapRead
and_gap GapDeleted _ = GapDeleted

-- What has been done with the key, after a request at this row and side is granted.
abbrev pub key_after : Row → Side → KeyUse → KeyUse
key_after FetchHit Current k = and_read k
key_after ScanKey Current k = and_read k
key_after Insert Current k = KeyInserted
key_after Update Current k = and_updated k
key_after _ _ k = k

-- The same of the gap below. An insert splits the gap below the next name, in which h has been done.
abbrev pub gap_after : Row → Side → GapUse → GapUse → GapUse
gap_after FetchMiss Next g h = and_gap g GapRead
gap_after ScanKey Current g h = and_gap g GapRead
gap_after ScanStop Next g h = and_gap g GapRead
gap_after Insert Current g h = and_gap g h
gap_after Delete Next g h = GapDeleted
gap_after _ _ g h = g

-- Whether the transaction has deleted the key, after the request. Only an insert of it is requested on a key that the transaction has deleted, so no other request forgets a deletion.
abbrev pub deleted_after : Row → Side → Bool
deleted_after Delete Current = true
deleted_after _ _ = false

-- The lock state after a request at this row and side is granted.
abbrev pub after : Protocol → Row → Side → LockState → LockState → LockState
after p r s x n = record {
  mode = mode_after p x.mode (asked p r s x n);
  key = key_after r s x.key;
  gap = gap_after r s x.gap n.gap;
  deleted = deleted_after r s;
}

-- A lock of mode m lets in some delete of its key, by a transaction with some own modes on the key and on the next name.
pub record LetsDelete (p : Protocol) (m : ℕ) : Type 0 where
  pub own : ℕ
  pub next : ℕ
  pub own_within : own ≤ p.count
  pub next_within : next ≤ p.count
  pub granted : conflicts_with p m own (p.ask Delete Current next) ≡ false

-- Mode m is compatible with some held mode.
pub record IsCompatible (p : Protocol) (m : ℕ) : Type 0 where
  pub held : ℕ
  pub some : 0 < held
  pub within : held ≤ p.count
  pub granted : p.ok m held ≡ true

-- Whether a transaction that has nothing to protect on an absent key may hold mode m there, 0 for no lock. If it holds a lock, another transaction took the key away: it was granted a delete beside this lock; or it had inserted the key, this lock was granted beside its lock, and it rolled back.
abbrev pub MayBeOnAbsent : Protocol → ℕ → Type 0
MayBeOnAbsent p m = LetsDelete p m ⊎ IsCompatible p m

-- A transaction inserts only a key that is absent. So it has nothing to protect there, unless it has deleted the key itself; then it protects the gap below the next name, in which the key was.
abbrev pub MayInsert : Protocol → LockState → LockState → Type 0
MayInsert p x n = ((x.deleted ≡ false) × IsIdle x × MayBeOnAbsent p x.mode) ⊎ ((x.deleted ≡ true) × (n.gap ≡ GapDeleted))

-- A transaction with the lock state x on a name, and n on the next one, may come to request a lock there at this row and side. A key that it has deleted is no name: it can only insert it again.
abbrev pub MayAsk : Protocol → Row → Side → LockState → LockState → Type 0
MayAsk p FetchHit Current x n = x.deleted ≡ false
MayAsk p FetchMiss Next x n = x.deleted ≡ false
MayAsk p ScanKey Current x n = x.deleted ≡ false
MayAsk p ScanStop Next x n = x.deleted ≡ false
MayAsk p Insert Current x n = (n.deleted ≡ false) × MayInsert p x n
MayAsk p Insert Next x n = x.deleted ≡ false
MayAsk p Delete Current x n = (x.deleted ≡ false) × (n.deleted ≡ false)
MayAsk p Delete Next x n = x.deleted ≡ false
MayAsk p Update Current x n = (x.deleted ≡ false) × (p.updates ≡ true)
MayAsk p _ _ x n = ⊥

-- The same, beside another transaction's lock state y on the name: nobody inserts a key that another protects or has deleted, or that can't be absent under the lock of the other.
abbrev pub MayBeside : Protocol → Row → Side → LockState → Type 0
MayBeside p Insert Current y = (y.deleted ≡ false) × IsIdle y × MayBeOnAbsent p y.mode
MayBeside p _ _ y = Unit {0}

-- Whether the lock of another transaction, with the lock state y, blocks the request: the converted mode conflicts with the mode held.
abbrev pub is_blocked : Protocol → Row → Side → LockState → LockState → LockState → Bool
is_blocked p r s x n y = conflicts_with p y.mode x.mode (asked p r s x n)

-- Which two can be on one name --

-- Two transactions can have the lock states x and y on one name. At first neither has anything there; the two may be exchanged; either may end, and then has nothing there; and either may be granted what it comes to request, unless the other's lock blocks it, with any lock state on the next name that it can have.
pub data Beside (p : Protocol) : LockState → LockState → Type 0 where
  start : Beside p free free
  turn : (x y : LockState) → Beside p x y → Beside p y x
  leave : (x y : LockState) → Beside p x y → Beside p free y
  move : (r : Row) (s : Side) (x y n : LockState) → Beside p x y → Beside p n free → MayAsk p r s x n → MayBeside p r s y → is_blocked p r s x n y ≡ false → Beside p (after p r s x n) y

-- Safe --

-- A protocol is safe if, of two transactions on one name, each one's lock blocks every request of the other that it has to keep out. It goes for all that the other may come to request, whether it may beside this lock or not: an insert has to be kept out on the next name alone.
abbrev pub IsSafe : Protocol → Type 0
IsSafe p = (r : Row) (s : Side) (x y n : LockState) → Beside p x y → Beside p n free → MayAsk p r s x n → keeps_out y r s ≡ true → is_blocked p r s x n y ≡ true
