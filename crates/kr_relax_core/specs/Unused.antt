-- Entries of a table that no schedule comes to.
use Rattle.std.specs.Prelude.{◌≡◌, ℕ, List, [], ◌∷◌, ◌++◌, All, Contains, Option, Some}
use Rattle.std.specs.List.{flat_map}
use Rattle.kr_model.specs.declared.Row.{Row}
use Rattle.kr_model.specs.declared.Row.TheVariants as row
use Rattle.kr_model.specs.declared.Side.{Side}
use Rattle.kr_model.specs.declared.Side.TheVariants.{Current, Next}
use Rattle.kr_model.specs.Protocol.{Protocol}
use Rattle.kr_model.specs.Covers.{modes, modes_or_none}
use Rattle.kr_kinds.specs.Kinds.{IndexProtocol, Gone, Leaves, table_of}
use Rattle.kr_change.specs.Changes.{requested_mode}
use Rattle.kr_relax_core.specs.declared.place.Place.{Place}
use Rattle.kr_relax_core.specs.declared.place.Place.TheVariants as place
use Rattle.kr_relax_core.specs.declared.place.Spot.{Spot}
use Rattle.kr_relax_core.specs.declared.unused.Entry.{Entry}
use Rattle.kr_relax_core.specs.declared.unused.Entry.TheVariants.{Pair, Conversion, Request}
use Rattle.kr_relax_core.specs.Met.{IsMetSpot, given_mode, heir, request_at}
use Rattle.kr_relax_core.specs.Selects.{Selects}

-- Entries in order --

-- A requested mode with each held one.
abbrev pub pairs_with : Protocol → ℕ → List Entry
pairs_with p q = flat_map (λ h. Pair q h ∷ []) (modes p)

abbrev pub pairs : Protocol → List Entry
pairs p = flat_map (pairs_with p) (modes p)

-- A held mode with each requested one.
abbrev pub conversions_from : Protocol → ℕ → List Entry
conversions_from p h = flat_map (λ q. Conversion h q ∷ []) (modes p)

abbrev pub conversions : Protocol → List Entry
conversions p = flat_map (conversions_from p) (modes p)

-- The request of a row at a side, with each own mode on the next name.
abbrev pub requests_at : Protocol → Row × Side → List Entry
requests_at p (r, s) = flat_map (λ o. Request r s o ∷ []) (modes_or_none p)

-- The rows that go by the own mode on the next name, at each side; with ghosts a delete doesn't.
abbrev pub inserts : List (Row × Side)
inserts = (row.Insert, Current) ∷ (row.Insert, Next) ∷ []

abbrev pub deletes : IndexProtocol → List (Row × Side)
deletes (Gone p) = (row.Delete, Current) ∷ (row.Delete, Next) ∷ []
deletes (Leaves p) = []

abbrev pub requests : IndexProtocol → List Entry
requests p = flat_map (requests_at (table_of p)) inserts ++ flat_map (requests_at (table_of p)) (deletes p)

-- All entries.
abbrev pub entries_of : IndexProtocol → List Entry
entries_of p = pairs (table_of p) ++ (conversions (table_of p) ++ requests p)

-- What schedules come to --

-- The mode that is requested, or inherited, if any is.
abbrev pub mode_asked : IndexProtocol → Place → ℕ → ℕ → Option ℕ
mode_asked p (place.Row r s) own next = requested_mode (request_at p (place.Row r s) own next)
mode_asked p (place.GhostRow g s) own next = requested_mode (request_at p (place.GhostRow g s) own next)
mode_asked p place.Purge own next = Some (heir p next)

-- The request is tested in the converted mode c, beside another's lock in mode h.
pub record IsTestedAt (p : IndexProtocol) (c h : ℕ) (x : Spot) : Type 0 where
  pub mode : ℕ
  pub asked : mode_asked p x.request.place x.request.own x.request.next ≡ Some mode
  pub converted : (table_of p).convert x.request.own mode ≡ c
  pub held : x.held ≡ h

-- One who holds mode h requests mode m, or inherits it.
pub record IsAskedAt (p : IndexProtocol) (h m : ℕ) (x : Spot) : Type 0 where
  pub asked : mode_asked p x.request.place x.request.own x.request.next ≡ Some m
  pub held : x.request.own ≡ h

-- The request is of the row at the side, by this own mode on the next name.
pub record IsRequestedAt (r : Row) (s : Side) (own_next : ℕ) (x : Spot) : Type 0 where
  pub place : x.request.place ≡ place.Row r s
  pub given : given_mode r s x.request.own x.request.next ≡ own_next

-- The request comes to the entry: it tests the pair of modes; it is made, or what it brings inherited, by one who holds the one mode; or it is the entry's.
abbrev pub ComesTo : IndexProtocol → Entry → Spot → Type 0
ComesTo p (Pair q h) x = IsTestedAt p q h x
ComesTo p (Conversion h q) x = IsAskedAt p h q x
ComesTo p (Request r s own_next) x = IsRequestedAt r s own_next x

-- Some schedule brings a request that comes to the entry.
pub record IsUsed (p : IndexProtocol) (e : Entry) : Type 0 where
  pub spot : Spot
  pub met : IsMetSpot p spot
  pub comes : ComesTo p e spot

-- None does.
abbrev pub IsUnused : IndexProtocol → Entry → Type 0
IsUnused p e = IsUsed p e → ⊥

-- The list has exactly the entries that no schedule comes to, in their order.
pub record AreUnused (p : IndexProtocol) (list : List Entry) : Type 0 where
  pub each : All (IsUnused p) list
  pub all : (e : Entry) → Contains (entries_of p) e → IsUnused p e → Contains list e
  pub order : Selects (IsUnused p) (entries_of p) list
