-- What one history of a transaction gives under two tables.
use Rattle.std.specs.Prelude.{◌≡◌, ◌≢◌, ℕ, ◌+◌, ◌*◌, ◌<◌, ◌≤◌, Bool, true, false, not, cond, List, All, Contains, length, slice_index_or}
use Rattle.std.specs.List.{sum_by, AllPairs}
use Rattle.kr_kinds.specs.Kinds.{IndexProtocol, table_of}
use Rattle.kr_relax_core.specs.declared.place.Place.{Place}
use Rattle.kr_relax_core.specs.declared.place.Request.{Request}
use Rattle.kr_relax_core.specs.declared.place.Spot.{Spot}
use Rattle.kr_relax_core.specs.declared.twins.Twin.{Twin}
use Rattle.kr_relax_core.specs.declared.twins.Twins.{Twins}
use Rattle.kr_relax_core.specs.Met.{IsMet, is_blocked_at, mode_then}

-- Who holds mode m on a name under p holds m' there under q, by the same requests, all granted: at first none under both; and then by each request that it may come to make under p, with modes on the next name that are twins too, and by each purge of a ghost below, with modes on the ghost that are. Histories are told apart by modes alone: where two give one mode, what may be requested after the one counts for the other too.
pub data AreTwins (p q : IndexProtocol) : ℕ → ℕ → Type 0 where
  none : AreTwins p q 0 0
  grown : (x : Place) (own next own' next' : ℕ) → IsMet p x own next 0 → AreTwins p q own own' → AreTwins p q next next' → AreTwins p q (mode_then p x own next) (mode_then q x own' next')

-- Two transactions come to a request that p blocks, or grants, and q doesn't: after the same requests, all granted by p, each holds under q a twin of what it holds under p.
pub record Differs (p q : IndexProtocol) (blocked : Bool) : Type 0 where
  pub place : Place
  pub own : ℕ
  pub next : ℕ
  pub held : ℕ
  pub own' : ℕ
  pub next' : ℕ
  pub held' : ℕ
  pub met : IsMet p place own next held
  pub own_twin : AreTwins p q own own'
  pub next_twin : AreTwins p q next next'
  pub held_twin : AreTwins p q held held'
  pub before : is_blocked_at p place own next held ≡ blocked
  pub after : is_blocked_at q place own' next' held' ≡ not blocked

-- q grants what p grants, in each state that schedules reach.
abbrev pub IsWeaker : IndexProtocol → IndexProtocol → Type 0
IsWeaker p q = Differs p q false → ⊥

-- And in some of them q grants what p blocks.
abbrev pub GrantsMore : IndexProtocol → IndexProtocol → Type 0
GrantsMore p q = Differs p q true

-- Finding twins --

-- A mode and its twin.
abbrev pub twin_of : ℕ → ℕ → Twin
twin_of m t = record { mode = m; twin = t }

-- How many pairs of modes haven't been found.
abbrev pub left : List Bool → ℕ
left unseen = sum_by (λ b. cond b 1 0) unseen

-- The two are twins, and modes or no lock; p and q have as many.
pub record IsTwin (p q : IndexProtocol) (x : Twin) : Type 0 where
  pub twins : AreTwins p q x.mode x.twin
  pub mode : x.mode ≤ (table_of p).count
  pub twin : x.twin ≤ (table_of p).count

-- Each of the list are twins, and it has what has been seen, each once.
pub record IsFoundWell (p q : IndexProtocol) (t : Twins) : Type 0 where
  pub apart : AllPairs (λ x y. x ≢ y) t.twins.items
  pub sound : All (IsTwin p q) t.twins.items
  pub first : Contains t.twins.items (twin_of 0 0)
  pub size : length t.unseen.items ≡ 256
  pub seen : (m n : ℕ) → m ≤ 15 → n ≤ 15 → slice_index_or t.unseen.items (m * 16 + n) true ≡ false → Contains t.twins.items (twin_of m n)
  pub unfound : (m n : ℕ) → m ≤ 15 → n ≤ 15 → slice_index_or t.unseen.items (m * 16 + n) true ≡ true → Contains t.twins.items (twin_of m n) → ⊥
  pub total : length t.twins.items + left t.unseen.items ≡ 256

-- More have been found, or the list is the same.
pub record Grows (p q : IndexProtocol) (old new : Twins) : Type 0 where
  pub well : IsFoundWell p q new
  pub kept : (x : Twin) → Contains old.twins.items x → Contains new.twins.items x
  pub more : length old.twins.items ≤ length new.twins.items
  pub same : length new.twins.items ≡ length old.twins.items → new.twins.items ≡ old.twins.items

-- What stands at a place of the list.
abbrev pub twin_at : List Twin → ℕ → Twin
twin_at list k = slice_index_or list k (twin_of 0 0)

-- What a request leads to, with these twins of its own modes, is in the list.
abbrev pub LeadsTo : IndexProtocol → IndexProtocol → List Twin → Request → ℕ → ℕ → Type 0
LeadsTo p q list x own next = Contains list (twin_of (mode_then p x.place x.own x.next) (mode_then q x.place own next))

-- So it is with each of the first k of `from` on the next name,
abbrev pub LeadsNexts : IndexProtocol → IndexProtocol → List Twin → List Twin → ℕ → Request → ℕ → Type 0
LeadsNexts p q list from k x own = (j : ℕ) → j < k → (twin_at from j).mode ≡ x.next → LeadsTo p q list x own (twin_at from j).twin

-- with each of the first k of them on the name,
abbrev pub LeadsOwns : IndexProtocol → IndexProtocol → List Twin → List Twin → ℕ → Request → Type 0
LeadsOwns p q list from k x = (i : ℕ) → i < k → (twin_at from i).mode ≡ x.own → LeadsNexts p q list from (length from) x (twin_at from i).twin

-- and for each of the first k requests that are met beside no lock.
abbrev pub LeadsAll : IndexProtocol → IndexProtocol → List Twin → List Twin → List Spot → ℕ → Type 0
LeadsAll p q list from spots k = (m : ℕ) (d : Spot) → m < k → (slice_index_or spots m d).held ≡ 0 → LeadsOwns p q list from (length from) (slice_index_or spots m d).request

-- The list has exactly the twins, each once.
pub record HasTwins (p q : IndexProtocol) (list : List Twin) : Type 0 where
  pub apart : AllPairs (λ x y. x ≢ y) list
  pub sound : All (IsTwin p q) list
  pub listed : (m n : ℕ) → AreTwins p q m n → Contains list (twin_of m n)

-- Where they differ --

-- The request of a spot, with these twins of its own modes, is blocked under p and not under q, or the other way round; beside one of the first k twins of the lock that is held.
pub record DiffersHeld (p q : IndexProtocol) (list : List Twin) (x : Spot) (own next : ℕ) (blocked : Bool) (k : ℕ) : Type 0 where
  pub place : ℕ
  pub within : place < k
  pub held : (twin_at list place).mode ≡ x.held
  pub after : is_blocked_at q x.request.place own next (twin_at list place).twin ≡ not blocked

-- So it is with one of the first k twins on the next name,
pub record DiffersNext (p q : IndexProtocol) (list : List Twin) (x : Spot) (own : ℕ) (blocked : Bool) (k : ℕ) : Type 0 where
  pub place : ℕ
  pub within : place < k
  pub next : (twin_at list place).mode ≡ x.request.next
  pub differs : DiffersHeld p q list x own (twin_at list place).twin blocked (length list)

-- with one of the first k on the name,
pub record DiffersOwn (p q : IndexProtocol) (list : List Twin) (x : Spot) (blocked : Bool) (k : ℕ) : Type 0 where
  pub place : ℕ
  pub within : place < k
  pub own : (twin_at list place).mode ≡ x.request.own
  pub differs : DiffersNext p q list x (twin_at list place).twin blocked (length list)

-- and at one spot of the first k, which is blocked under p or not.
pub record DiffersSpot (p q : IndexProtocol) (list : List Twin) (spots : List Spot) (blocked : Bool) (k : ℕ) : Type 0 where
  pub place : ℕ
  pub spot : Spot
  pub within : place < k
  pub there : slice_index_or spots place spot ≡ spot
  pub before : is_blocked_at p spot.request.place spot.request.own spot.request.next spot.held ≡ blocked
  pub differs : DiffersOwn p q list spot blocked (length list)
