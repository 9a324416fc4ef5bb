-- Which requests may come under a safe table, told by the modes that are held, and when a set of modes is closed under those.
use Rattle.std.specs.Prelude.{◌≡◌, ℕ, false, ◌⊎◌, List}
use Rattle.kr_model.specs.declared.Event.{Event}
use Rattle.kr_model.specs.declared.Row.{Row}
use Rattle.kr_model.specs.declared.Row.TheVariants.{Insert, Delete}
use Rattle.kr_model.specs.declared.Side.{Side}
use Rattle.kr_model.specs.declared.Side.TheVariants.{Current}
use Rattle.kr_model.specs.declared.KeyUse.TheVariants.{Inserted as KeyInserted}
use Rattle.kr_model.specs.declared.LockState.{LockState}
use Rattle.kr_model.specs.Protocol.{Protocol}
use Rattle.kr_model.specs.Covers.{conflicts_with}
use Rattle.kr_model.specs.Map.{Map, IsMap}
use Rattle.kr_model.specs.State.{start}
use Rattle.kr_model.specs.Run.{run}
use Rattle.kr_model.specs.Safe.{free, MayAsk, MayBeside, Beside}
use Rattle.kr_alike.specs.Closed.{HasClosedSetFor}
use Rattle.kr_alike.specs.Alike.{IsSameRun}

-- A transaction may have the lock state x on a key that is absent: it may insert the key beside it; or it has inserted the key, and may take that back.
abbrev pub IsPast : Protocol → LockState → Type 0
IsPast p x = MayBeside p Insert Current x ⊎ (x.key ≡ KeyInserted)

-- It can have such a lock state of mode m.
pub record IsHeldPast (p : Protocol) (m : ℕ) : Type 0 where
  pub state : LockState
  pub reached : Beside p state free
  pub mode : state.mode ≡ m
  pub past : IsPast p state

-- A lock of mode m lets in a delete of its key that may come.
pub record LetsInDelete (p : Protocol) (m : ℕ) : Type 0 where
  pub own : LockState
  pub next : LockState
  pub own_reached : Beside p own free
  pub next_reached : Beside p next free
  pub asks : MayAsk p Delete Current own next
  pub granted : conflicts_with p m own.mode (p.ask Delete Current next.mode) ≡ false

-- A transaction may hold mode m on a key that is absent and that it doesn't change itself: another deleted the key beside it, or it has such a lock state.
abbrev pub MayBeLeft : Protocol → ℕ → Type 0
MayBeLeft p m = LetsInDelete p m ⊎ IsHeldPast p m

-- Nobody inserts a key on which another holds y, unless y may be left on an absent key.
abbrev pub MayComeBeside : Protocol → Row → Side → ℕ → Type 0
MayComeBeside p Insert Current y = MayBeLeft p y
MayComeBeside p _ _ y = Unit {0}

-- A transaction that holds x on a name, and n on the next one, may come to request a lock at this row and side, beside one that holds y: it can have lock states of these modes with which it may ask.
pub record MayCome (p : Protocol) (r : Row) (s : Side) (x n y : ℕ) : Type 0 where
  pub own : LockState
  pub next : LockState
  pub own_reached : Beside p own free
  pub next_reached : Beside p next free
  pub own_mode : own.mode ≡ x
  pub next_mode : next.mode ≡ n
  pub asks : MayAsk p r s own next
  pub beside : MayComeBeside p r s y

-- Some set is closed under the requests that may come under the first table, and both tables offer updates or neither does.
abbrev pub HasClosedSet : Protocol → Protocol → Type 0
HasClosedSet p q = HasClosedSetFor p q (MayCome p)

-- From every opening index, whose keys rise, and by every list of events the two tables have the same run.
abbrev pub AlikeOnMaps : Protocol → Protocol → Type 0
AlikeOnMaps p q = (opening : Map) (events : List Event) → IsMap opening → IsSameRun (run p (start opening) events) (run q (start opening) events)
