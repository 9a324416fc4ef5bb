-- All changes of one entry of a table with ghosts, in order, and of a table of either kind.
use Rattle.std.specs.Prelude.{ℕ, ◌==◌, ◌^◌, Bool, true, false, List, [], ◌∷◌, ◌++◌, Option, Some, None, if◌then◌else◌}
use Rattle.std.specs.List.{flat_map}
use Rattle.kr_model.specs.declared.Row.{Row}
use Rattle.kr_model.specs.declared.Row.TheVariants as row
use Rattle.kr_model.specs.declared.Side.{Side}
use Rattle.kr_model.specs.declared.Side.TheVariants.{Current, Next}
use Rattle.kr_model.specs.declared.Span.{Span}
use Rattle.kr_model.specs.Covers.{if_updating, modes, modes_or_none}
use Rattle.kr_ghost.specs.declared.vain.Vain.TheVariants as vain
use Rattle.kr_ghost.specs.Protocol.{GhostProtocol, heir_of, inherits}
use Rattle.kr_kinds.specs.Kinds.{IndexProtocol, Gone, Leaves}
use Rattle.kr_change.specs.declared.change.GhostRow.{GhostRow}
use Rattle.kr_change.specs.declared.change.GhostRow.TheVariants.{Revive, InsertHit, DeleteMiss, UpdateMiss}
use Rattle.kr_change.specs.declared.change.Change.{Change}
use Rattle.kr_change.specs.declared.change.Change.TheVariants.{GhostRequest, Heir}
use Rattle.kr_change.specs.Every.{changes_of, compatibles, conversions, entry_of, requests_by_own, requests_to}

-- Rows of every table --

-- Whether a row goes by the own mode on the next name.
abbrev pub is_by_own : Row → Bool
is_by_own row.Insert = true
is_by_own row.FetchHit = false
is_by_own row.FetchMiss = false
is_by_own row.ScanKey = false
is_by_own row.ScanStop = false
is_by_own row.Delete = false
is_by_own row.Update = false

abbrev pub ghost_requests_at : GhostProtocol → Row × Side → List Change
ghost_requests_at p (r, s) = if is_by_own r then requests_by_own p.table r s else requests_to p.table (entry_of r s None (p.table.ask r s 0))

-- Each row, at each side at which it requests a lock.
abbrev pub ghost_places : GhostProtocol → List (Row × Side)
ghost_places p = (row.FetchHit, Current) ∷ (row.FetchMiss, Next) ∷ (row.ScanKey, Current) ∷ (row.ScanStop, Next) ∷ (row.Insert, Current) ∷ (row.Insert, Next) ∷ (row.Delete, Current) ∷ if_updating p.table ((row.Update, Current) ∷ [])

abbrev pub ghost_requests : GhostProtocol → List Change
ghost_requests p = flat_map (ghost_requests_at p) (ghost_places p)

-- Rows that only tables with ghosts have --

-- Such a row with each other request than this.
abbrev pub requests_of : GhostProtocol → GhostRow → Side → Option (ℕ × Span) → List Change
requests_of p r s now = requests_to p.table (record { change = GhostRequest r s None; now = now })

abbrev pub revives : GhostProtocol → List Change
revives p = requests_of p Revive Current p.revive ++ requests_of p Revive Next p.revive_next

-- The row of a vain insert, if there is one.
abbrev pub hits : GhostProtocol → Option (Option (ℕ × Span)) → List Change
hits p None = []
hits p (Some now) = requests_of p InsertHit Current now ++ requests_of p InsertHit Next p.insert_hit_next

-- That of a vain delete or update, if there is one.
abbrev pub misses : GhostProtocol → GhostRow → Option (Option (ℕ × Span)) → List Change
misses p r None = []
misses p r (Some now) = requests_of p r Next now

abbrev pub own_rows : GhostProtocol → List Change
own_rows p = revives p ++ (hits p (p.vain vain.InsertHit) ++ (misses p DeleteMiss (p.vain vain.DeleteMiss) ++ misses p UpdateMiss (p.vain vain.UpdateMiss)))

-- Heirs --

-- The mode m, or none, inherited by who has h, where it isn't so now.
abbrev pub heir_to : GhostProtocol → ℕ → ℕ → List Change
heir_to p h m = if m == heir_of p.purges h then [] else Heir (2 ^ h) m ∷ []

abbrev pub heirs_from : GhostProtocol → ℕ → List Change
heirs_from p h = flat_map (heir_to p h) (modes_or_none p.table)

abbrev pub all_heirs : GhostProtocol → List Change
all_heirs p = flat_map (heirs_from p) (modes p.table)

-- Only where locks are inherited.
abbrev pub heirs : GhostProtocol → List Change
heirs p = if inherits p.purges then all_heirs p else []

-- All changes of one entry.
abbrev pub ghost_changes_of : GhostProtocol → List Change
ghost_changes_of p = compatibles p.table ++ (conversions p.table ++ (ghost_requests p ++ (own_rows p ++ heirs p)))

-- All changes of one entry of a table of either kind.
abbrev pub index_changes_of : IndexProtocol → List Change
index_changes_of (Gone p) = changes_of p
index_changes_of (Leaves p) = ghost_changes_of p
