-- Finding what schedules bring together.
use Rattle.std.specs.Prelude.{◌≡◌, ◌≢◌, ℕ, ◌+◌, ◌*◌, ◌<◌, ◌≤◌, Bool, true, false, List, [], ◌∷◌, All, Contains, length, slice_index_or}
use Rattle.kr_model.specs.declared.Row.{Row}
use Rattle.kr_model.specs.declared.Row.TheVariants.{FetchHit, FetchMiss, ScanKey, ScanStop, Insert, Delete, Update}
use Rattle.kr_model.specs.declared.Side.{Side}
use Rattle.kr_model.specs.declared.Side.TheVariants.{Current, Next}
use Rattle.kr_model.specs.declared.LockState.{LockState}
use Rattle.kr_model.specs.Protocol.{Protocol}
use Rattle.kr_model.specs.Safe.{free, MayAsk, MayBeside}
use Rattle.kr_model.specs.Words.{row_number, side_number}
use Rattle.kr_decide.specs.declared.pair.Pair.{Pair}
use Rattle.kr_decide.specs.Pairs.{pair_at}
use Rattle.kr_ghost.specs.Protocol.{GhostProtocol, inherits as are_inherited}
use Rattle.kr_ghost.specs.Safe as ghost
use Rattle.kr_ghost_decide.specs.declared.ask.Ask.TheVariants as ask
use Rattle.kr_ghost_decide.specs.declared.hold.Pair.{Pair as GhostPair}
use Rattle.kr_ghost_decide.specs.Holds.{Fact, fact, asking}
use Rattle.kr_ghost_decide.specs.Ways.{asks}
use Rattle.kr_change.specs.GhostChanges.{ghost_row_number}
use Rattle.kr_kinds.specs.Kinds.{IndexProtocol, table_of}
use Rattle.kr_relax_core.specs.declared.place.Place.{Place}
use Rattle.kr_relax_core.specs.declared.place.Place.TheVariants as place
use Rattle.kr_relax_core.specs.declared.place.Spot.{Spot}
use Rattle.kr_relax_core.specs.declared.finder.Finder.{Finder}
use Rattle.kr_relax_core.specs.Met.{IsMetSpot, AreApart, next_mode, place_of, spot}

-- The number of a place, below 23.
abbrev pub place_number : Place → ℕ
place_number (place.Row r s) = row_number r * 2 + side_number s
place_number (place.GhostRow g s) = 14 + ghost_row_number g * 2 + side_number s
place_number place.Purge = 22

-- A number below 94,208 for a place and three modes up to 15.
abbrev pub spot_number : Place → ℕ → ℕ → ℕ → ℕ
spot_number x own next held = ((place_number x * 16 + own) * 16 + next) * 16 + held

-- Each spot of the list is met, by modes of p, and stands there once; and the list has what has been seen, and nothing else.
pub record IsFinding (p : IndexProtocol) (f : Finder) : Type 0 where
  pub apart : AreApart f.spots.items
  pub sound : All (IsMetSpot p) f.spots.items
  pub own : All (λ x. x.request.own ≤ (table_of p).count) f.spots.items
  pub next : All (λ x. x.request.next ≤ (table_of p).count) f.spots.items
  pub held : All (λ x. x.held ≤ (table_of p).count) f.spots.items
  pub size : length f.seen.items ≡ 94208
  pub seen : (x : Place) (own next held : ℕ) → own ≤ 15 → next ≤ 15 → held ≤ 15 → slice_index_or f.seen.items (spot_number x own next held) false ≡ true → Contains f.spots.items (spot x own next held)
  pub unseen : (x : Place) (own next held : ℕ) → own ≤ 15 → next ≤ 15 → held ≤ 15 → slice_index_or f.seen.items (spot_number x own next held) false ≡ false → Contains f.spots.items (spot x own next held) → ⊥

-- What was found still is.
abbrev pub Keeps : List Spot → List Spot → Type 0
Keeps old new = (x : Spot) → Contains old x → Contains new x

-- More has been found.
pub record FindsMore (p : IndexProtocol) (old new : Finder) : Type 0 where
  pub finding : IsFinding p new
  pub kept : Keeps old.spots.items new.spots.items

-- Without ghosts --

-- Each row, at each side at which it requests a lock.
abbrev pub all_places : List (Row × Side)
all_places = (FetchHit, Current) ∷ (FetchMiss, Next) ∷ (ScanKey, Current) ∷ (ScanStop, Next) ∷ (Insert, Current) ∷ (Insert, Next) ∷ (Delete, Current) ∷ (Delete, Next) ∷ (Update, Current) ∷ []

-- The request of one who has x on a name, and n on the next one, beside another who has y, is found.
abbrev pub FindsAt : Protocol → List Spot → Row → Side → LockState → LockState → LockState → Type 0
FindsAt p spots r s x y n = MayAsk p r s x n → MayBeside p r s y → Contains spots (spot (place.Row r s) x.mode (next_mode r s n) y.mode)

-- So it is with each of the first k of these on the next name, where nobody else has anything there,
abbrev pub FindsNexts : Protocol → List Spot → Row → Side → List Pair → ℕ → LockState → LockState → Type 0
FindsNexts p spots r s pairs k x y = (j : ℕ) → j < k → (pair_at pairs j).other ≡ free → FindsAt p spots r s x y (pair_at pairs j).own

-- for each of the first k pairs,
abbrev pub FindsPairs : Protocol → List Spot → Row → Side → List Pair → ℕ → Type 0
FindsPairs p spots r s pairs k = (i : ℕ) → i < k → FindsNexts p spots r s pairs (length pairs) (pair_at pairs i).own (pair_at pairs i).other

-- and for each of the first k places.
abbrev pub FindsPlaces : Protocol → List Spot → List Pair → ℕ → Type 0
FindsPlaces p spots pairs k = (m : ℕ) → m < k → FindsPairs p spots (slice_index_or all_places m (FetchHit, Current)).0 (slice_index_or all_places m (FetchHit, Current)).1 pairs (length pairs)

-- With ghosts --

-- The request of the first of two that have this is found,
abbrev pub FindsAsk : GhostProtocol → List Spot → Fact → ghost.Ask → Type 0
FindsAsk p spots f a = ghost.MayAsk p f.present f.own a → Contains spots (spot (place_of a) f.own.mode 0 f.other.mode)

-- the first n requests,
abbrev pub FindsAsks : GhostProtocol → List Spot → Fact → ℕ → Type 0
FindsAsks p spots f n = (k : ℕ) → k < n → FindsAsk p spots f (asking (slice_index_or asks k ask.FetchHit))

-- and the request on a key that it inserts below the name.
abbrev pub FindsNew : List Spot → Fact → Type 0
FindsNew spots f = f.other ≡ ghost.free → f.own.rolling ≡ false → Contains spots (spot (place.Row Insert Current) 0 f.own.mode 0)

-- What two have on a ghost that may be purged while one has its lock on it.
pub record IsLeft (f : Fact) : Type 0 where
  pub gone : f.present ≡ false
  pub alone : f.other ≡ ghost.free
  pub stays : f.own.rolling ≡ false
  pub unchanged : ghost.is_changed f.own.key ≡ false

-- What two have on a name while one of them alone inherits a lock there.
pub record MayInherit (p : GhostProtocol) (f : Fact) : Type 0 where
  pub inherits : are_inherited p.purges ≡ true
  pub alone : f.other ≡ ghost.free
  pub stays : f.own.rolling ≡ false

-- The purge of a ghost with this lock is found, below a name with that one,
abbrev pub FindsPurge : GhostProtocol → List Spot → Fact → Fact → Type 0
FindsPurge p spots f g = MayInherit p f → IsLeft g → Contains spots (spot place.Purge f.own.mode g.own.mode 0)

-- with each of the first k of these on the ghost,
abbrev pub FindsPurges : GhostProtocol → List Spot → List GhostPair → ℕ → Fact → Type 0
FindsPurges p spots pairs k f = (j : ℕ) (d : GhostPair) → j < k → FindsPurge p spots f (fact (slice_index_or pairs j d))

-- All that comes of what two have on a name is found;
pub record FindsAll (p : GhostProtocol) (spots : List Spot) (pairs : List GhostPair) (f : Fact) : Type 0 where
  pub asks : FindsAsks p spots f 13
  pub new : FindsNew spots f
  pub purges : FindsPurges p spots pairs (length pairs) f

-- of each of the first k pairs.
abbrev pub FindsEach : GhostProtocol → List Spot → List GhostPair → ℕ → Type 0
FindsEach p spots pairs k = (i : ℕ) (d : GhostPair) → i < k → FindsAll p spots pairs (fact (slice_index_or pairs i d))
