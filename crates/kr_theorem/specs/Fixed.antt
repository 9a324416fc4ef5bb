-- What each fixed schedule needs of a table to go wrong: the lock of a transaction lets in a request of another, which has none.
use Rattle.std.specs.Prelude.{◌≡◌, ℕ, zero, suc, ◌≤◌, true, false}
use Rattle.kr_model.specs.declared.Row.{Row}
use Rattle.kr_model.specs.declared.Row.TheVariants.{FetchHit, FetchMiss, ScanKey, ScanStop, Insert, Delete, Update}
use Rattle.kr_model.specs.declared.Side.{Side}
use Rattle.kr_model.specs.declared.Side.TheVariants.{Current, Next}
use Rattle.kr_model.specs.Protocol.{Protocol}
use Rattle.kr_model.specs.Covers.{mode_after, conflicts_with}

-- The mode on a name of a transaction that had no lock, after its request there.
abbrev pub first : Protocol → Row → Side → ℕ
first p r s = mode_after p 0 (p.ask r s 0)

-- The mode on the lowest of n keys that a transaction has inserted, each into the gap below the one before, and the first below a name where it held m.
abbrev pub lowest : Protocol → ℕ → ℕ → ℕ
lowest p m zero = m
lowest p m (suc n) = mode_after p 0 (p.ask Insert Current (lowest p m n))

-- A lock in mode m lets in this request of another transaction that has no lock.
abbrev pub LetsIn : Protocol → ℕ → Row → Side → Type 0
LetsIn p m r s = conflicts_with p m 0 (p.ask r s 0) ≡ false

-- A hole that some fixed schedule shows: a transaction has a lock from its first request on a name, and that lock lets in what another transaction does then.
pub data FixedHole (p : Protocol) : Type 0 where
  -- it has read a key
  fetch_lets_delete : LetsIn p (first p FetchHit Current) Delete Current → FixedHole p
  fetch_lets_update : p.updates ≡ true → LetsIn p (first p FetchHit Current) Update Current → FixedHole p
  scan_lets_delete : LetsIn p (first p ScanKey Current) Delete Current → FixedHole p
  scan_lets_update : p.updates ≡ true → LetsIn p (first p ScanKey Current) Update Current → FixedHole p
  -- it has read the gap below a key
  miss_lets_delete : LetsIn p (first p FetchMiss Next) Delete Current → FixedHole p
  stop_lets_delete : LetsIn p (first p ScanStop Next) Delete Current → FixedHole p
  -- it has updated a key
  update_lets_fetch : p.updates ≡ true → LetsIn p (first p Update Current) FetchHit Current → FixedHole p
  update_lets_scan : p.updates ≡ true → LetsIn p (first p Update Current) ScanKey Current → FixedHole p
  update_lets_delete : p.updates ≡ true → LetsIn p (first p Update Current) Delete Current → FixedHole p
  update_lets_update : p.updates ≡ true → LetsIn p (first p Update Current) Update Current → FixedHole p
  -- it has inserted a key; a delete of that key requests a lock on the next name too, where the insert may have kept one
  insert_lets_fetch : LetsIn p (first p Insert Current) FetchHit Current → FixedHole p
  insert_lets_scan : LetsIn p (first p Insert Current) ScanKey Current → FixedHole p
  insert_lets_delete : LetsIn p (first p Insert Current) Delete Current → LetsIn p (first p Insert Next) Delete Next → FixedHole p
  insert_lets_update : p.updates ≡ true → LetsIn p (first p Insert Current) Update Current → FixedHole p
  insert_lets_miss : LetsIn p (first p Insert Current) FetchMiss Next → FixedHole p
  insert_lets_stop : LetsIn p (first p Insert Current) ScanStop Next → FixedHole p
  insert_lets_delete_below : LetsIn p (first p Insert Current) Delete Next → FixedHole p
  -- it has deleted a key in the gap below another
  delete_lets_miss : LetsIn p (first p Delete Next) FetchMiss Next → FixedHole p
  delete_lets_scan : LetsIn p (first p Delete Next) ScanKey Current → FixedHole p
  delete_lets_stop : LetsIn p (first p Delete Next) ScanStop Next → FixedHole p
  delete_lets_delete : LetsIn p (first p Delete Next) Delete Current → FixedHole p
  delete_lets_delete_below : LetsIn p (first p Delete Next) Delete Next → FixedHole p
  -- it has read the gap below a key or deleted a key in it, and then inserted n keys into it, each below the one before, and no more than there are modes
  miss_lets_insert : (n : ℕ) → n ≤ p.count → LetsIn p (lowest p (first p FetchMiss Next) n) Insert Next → FixedHole p
  scan_lets_insert : (n : ℕ) → n ≤ p.count → LetsIn p (lowest p (first p ScanKey Current) n) Insert Next → FixedHole p
  stop_lets_insert : (n : ℕ) → n ≤ p.count → LetsIn p (lowest p (first p ScanStop Next) n) Insert Next → FixedHole p
  delete_lets_insert : (n : ℕ) → n ≤ p.count → LetsIn p (lowest p (first p Delete Next) n) Insert Next → FixedHole p
