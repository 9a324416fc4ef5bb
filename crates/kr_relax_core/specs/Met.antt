-- Which requests schedules bring beside which locks, by the modes alone.
use Rattle.std.specs.Prelude.{◌≡◌, ◌≢◌, ℕ, ◌≤◌, Bool, false, true, Option, None, List, All, Contains, if◌then◌else◌}
use Rattle.std.specs.List.{AllPairs}
use Rattle.kr_model.specs.declared.Row.{Row}
use Rattle.kr_model.specs.declared.Row.TheVariants as row
use Rattle.kr_model.specs.declared.Side.{Side}
use Rattle.kr_model.specs.declared.Side.TheVariants.{Current, Next}
use Rattle.kr_model.specs.declared.Span.{Span}
use Rattle.kr_model.specs.declared.LockState.{LockState}
use Rattle.kr_model.specs.Protocol.{Protocol}
use Rattle.kr_model.specs.Covers.{mode_after, conflicts_with}
use Rattle.kr_model.specs.Safe.{free, MayAsk, MayBeside, Beside}
use Rattle.kr_decide.specs.Findings.{goes_by_next}
use Rattle.kr_ghost.specs.declared.vain.Vain.TheVariants as vain
use Rattle.kr_ghost.specs.Protocol.{GhostProtocol, heir_of, inherits}
use Rattle.kr_ghost.specs.Safe as ghost
use Rattle.kr_ghost.specs.Step as step
use Rattle.kr_kinds.specs.Kinds.{IndexProtocol, Gone, Leaves, table_of}
use Rattle.kr_change.specs.declared.change.GhostRow.{GhostRow}
use Rattle.kr_change.specs.declared.change.GhostRow.TheVariants as ghost_row
use Rattle.kr_relax_core.specs.declared.place.Place.{Place}
use Rattle.kr_relax_core.specs.declared.place.Place.TheVariants as place
use Rattle.kr_relax_core.specs.declared.place.Request.{Request}
use Rattle.kr_relax_core.specs.declared.place.Spot.{Spot}

-- Requests by modes --

-- The own mode that the request of an insert or delete goes by, of one who holds `own` on the requested name and `next` on the next one; any other request goes by none. At the side next the two names are one.
abbrev pub given_mode : Row → Side → ℕ → ℕ → ℕ
given_mode row.Insert Next own next = own
given_mode row.Delete Next own next = own
given_mode row.Insert Current own next = next
given_mode row.Delete Current own next = next
given_mode row.FetchHit s own next = 0
given_mode row.FetchMiss s own next = 0
given_mode row.ScanKey s own next = 0
given_mode row.ScanStop s own next = 0
given_mode row.Update s own next = 0

-- What a row requests that only tables with ghosts have.
abbrev pub ghost_request : GhostProtocol → GhostRow → Side → Option (ℕ × Span)
ghost_request p ghost_row.Revive Current = p.revive
ghost_request p ghost_row.Revive Next = p.revive_next
ghost_request p ghost_row.InsertHit Current = step.vain p vain.InsertHit
ghost_request p ghost_row.InsertHit Next = p.insert_hit_next
ghost_request p ghost_row.DeleteMiss s = step.vain p vain.DeleteMiss
ghost_request p ghost_row.UpdateMiss s = step.vain p vain.UpdateMiss

-- What is requested at a place, or nothing; a purge requests nothing.
abbrev pub request_at : IndexProtocol → Place → ℕ → ℕ → Option (ℕ × Span)
request_at p (place.Row r s) own next = (table_of p).ask r s (given_mode r s own next)
request_at (Gone p) (place.GhostRow g s) own next = None
request_at (Leaves p) (place.GhostRow g s) own next = ghost_request p g s
request_at p place.Purge own next = None

-- Whether another's lock in mode `held` blocks the request.
abbrev pub is_blocked_at : IndexProtocol → Place → ℕ → ℕ → ℕ → Bool
is_blocked_at p x own next held = conflicts_with (table_of p) held own (request_at p x own next)

-- The mode that is inherited of this one on a ghost that is purged, 0 for none.
abbrev pub heir : IndexProtocol → ℕ → ℕ
heir (Gone p) m = 0
heir (Leaves p) m = heir_of p.purges m

-- The mode on the requested name once it is granted; or on the name above a ghost with the lock `next`, once that is purged.
abbrev pub mode_then : IndexProtocol → Place → ℕ → ℕ → ℕ
mode_then p (place.Row r s) own next = mode_after (table_of p) own (request_at p (place.Row r s) own next)
mode_then p (place.GhostRow g s) own next = mode_after (table_of p) own (request_at p (place.GhostRow g s) own next)
mode_then p place.Purge own next = (table_of p).convert own (heir p next)

-- What schedules bring together --

-- The mode on the next name, where the request goes by it, else none.
abbrev pub next_mode : Row → Side → LockState → ℕ
next_mode r s n = if goes_by_next r s then n.mode else 0

-- Without ghosts: of two transactions that can have these lock states on one name, the first may come to make the request beside the second. It holds `own` there, and `next` on the next name where the request goes by that; the second holds `held`, 0 for no lock.
pub record IsMetGone (p : Protocol) (r : Row) (s : Side) (own next held : ℕ) : Type 0 where
  pub first : LockState
  pub second : LockState
  -- what the first has on the next name
  pub above : LockState
  pub beside : Beside p first second
  pub alone : Beside p above free
  pub asks : MayAsk p r s first above
  pub may_beside : MayBeside p r s second
  pub own_mode : first.mode ≡ own
  pub above_mode : next_mode r s above ≡ next
  pub held_mode : second.mode ≡ held

-- With ghosts: where what is requested of a name is asked for.
abbrev pub place_of : ghost.Ask → Place
place_of ghost.FetchHit = place.Row row.FetchHit Current
place_of ghost.FetchMiss = place.Row row.FetchMiss Next
place_of ghost.ScanName = place.Row row.ScanKey Current
place_of ghost.ScanStop = place.Row row.ScanStop Next
place_of ghost.Insert = place.Row row.Insert Next
place_of ghost.Delete = place.Row row.Delete Current
place_of ghost.Update = place.Row row.Update Current
place_of ghost.Revive = place.GhostRow ghost_row.Revive Current
place_of ghost.InsertHit = place.GhostRow ghost_row.InsertHit Current
place_of ghost.DeleteMiss = place.GhostRow ghost_row.DeleteMiss Next
place_of ghost.UpdateMiss = place.GhostRow ghost_row.UpdateMiss Next
place_of ghost.ReviveNext = place.GhostRow ghost_row.Revive Next
place_of ghost.InsertHitNext = place.GhostRow ghost_row.InsertHit Next

-- A transaction requests a lock on a name beside another that can be there; it requests one on a key that it has inserted below a name; or it has this lock on a name while a ghost below, where it has that one and has changed nothing, is purged.
pub data IsMetLeaving (p : GhostProtocol) : Place → ℕ → ℕ → ℕ → Type 0 where
  asks : (a : ghost.Ask) (present : Bool) (x y : ghost.Hold) → ghost.Beside p present x y → ghost.MayAsk p present x a → IsMetLeaving p (place_of a) x.mode 0 y.mode
  on_new_key : (present : Bool) (x : ghost.Hold) → ghost.Beside p present x ghost.free → x.rolling ≡ false → IsMetLeaving p (place.Row row.Insert Current) 0 x.mode 0
  purged : (present : Bool) (x y : ghost.Hold) → inherits p.purges ≡ true → ghost.Beside p present x ghost.free → x.rolling ≡ false
      → ghost.Beside p false y ghost.free → y.rolling ≡ false → ghost.is_changed y.key ≡ false → IsMetLeaving p place.Purge x.mode y.mode 0

-- Schedules bring it, by its kind.
abbrev pub IsMet : IndexProtocol → Place → ℕ → ℕ → ℕ → Type 0
IsMet (Gone p) (place.Row r s) own next held = IsMetGone p r s own next held
IsMet (Gone p) (place.GhostRow g s) own next held = ⊥
IsMet (Gone p) place.Purge own next held = ⊥
IsMet (Leaves p) x own next held = IsMetLeaving p x own next held

-- It is met, by its modes.
abbrev pub IsMetSpot : IndexProtocol → Spot → Type 0
IsMetSpot p x = IsMet p x.request.place x.request.own x.request.next x.held

-- The request with these parts.
abbrev pub request : Place → ℕ → ℕ → Request
request x own next = record { place = x; own = own; next = next }

-- And beside a lock.
abbrev pub spot : Place → ℕ → ℕ → ℕ → Spot
spot x own next held = record { request = request x own next; held = held }

-- The list has exactly what schedules bring together, and all its modes are modes of p, or no lock.
pub record IsMetBy (p : IndexProtocol) (spots : List Spot) : Type 0 where
  pub sound : All (IsMetSpot p) spots
  pub listed : (x : Place) (own next held : ℕ) → IsMet p x own next held → Contains spots (spot x own next held)
  pub own : All (λ x. x.request.own ≤ (table_of p).count) spots
  pub next : All (λ x. x.request.next ≤ (table_of p).count) spots
  pub held : All (λ x. x.held ≤ (table_of p).count) spots

-- No spot stands twice in the list.
abbrev pub AreApart : List Spot → Type 0
AreApart spots = AllPairs (λ x y. x ≢ y) spots
