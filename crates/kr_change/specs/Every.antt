-- All changes of one entry of a table, in order.
use Rattle.std.specs.Prelude.{ℕ, ◌==◌, ◌&&◌, ◌^◌, Bool, true, false, not, List, [], ◌∷◌, ◌++◌, Option, Some, None, if◌then◌else◌}
use Rattle.std.specs.List.{flat_map}
use Rattle.kr_model.specs.declared.Row.{Row}
use Rattle.kr_model.specs.declared.Row.TheVariants.{FetchHit, FetchMiss, ScanKey, ScanStop, Insert, Delete, Update}
use Rattle.kr_model.specs.declared.Side.{Side}
use Rattle.kr_model.specs.declared.Side.TheVariants.{Current, Next}
use Rattle.kr_model.specs.declared.Span.{Span}
use Rattle.kr_model.specs.declared.Span.TheVariants.{Instant, Commit}
use Rattle.kr_model.specs.Protocol.{Protocol}
use Rattle.kr_model.specs.Covers.{if_updating, modes, modes_or_none}
use Rattle.kr_change.specs.declared.change.Change.{Change}
use Rattle.kr_change.specs.declared.change.Change.TheVariants.{Request, GhostRequest, Convert, Heir, Compatible}
use Rattle.kr_change.specs.declared.every.Entry.{Entry}
use Rattle.kr_change.specs.Changes.{moves_keys}

-- Pairs --

-- A requested mode and each held one: compatible where they aren't, and the other way round.
abbrev pub compatibles_of : Protocol → ℕ → List Change
compatibles_of p q = flat_map (λ h. Compatible q h (not (p.ok q h)) ∷ []) (modes p)

abbrev pub compatibles : Protocol → List Change
compatibles p = flat_map (compatibles_of p) (modes p)

-- Conversions --

-- The conversion of h and q to another mode.
abbrev pub converted_to : Protocol → ℕ → ℕ → ℕ → List Change
converted_to p h q m = if m == p.convert h q then [] else Convert h q m ∷ []

abbrev pub conversions_from : Protocol → ℕ → ℕ → List Change
conversions_from p h q = flat_map (converted_to p h q) (modes p)

abbrev pub conversions_of : Protocol → ℕ → List Change
conversions_of p h = flat_map (conversions_from p h) (modes p)

abbrev pub conversions : Protocol → List Change
conversions p = flat_map (conversions_of p) (modes p)

-- Requests --

abbrev pub is_same_span : Span → Span → Bool
is_same_span Instant Instant = true
is_same_span Commit Commit = true
is_same_span _ _ = false

-- Whether two requests are the same.
abbrev pub is_same_request : Option (ℕ × Span) → Option (ℕ × Span) → Bool
is_same_request None None = true
is_same_request (Some (m, s)) (Some (n, t)) = (m == n) && is_same_span s t
is_same_request _ _ = false

-- The change with another request, if it is of one.
abbrev pub with_request : Option (ℕ × Span) → Change → Change
with_request q (Request row side own_next request) = Request row side own_next q
with_request q (GhostRequest row side request) = GhostRequest row side q
with_request q (Convert held requested mode) = Convert held requested mode
with_request q (Heir held mode) = Heir held mode
with_request q (Compatible requested held is_compatible) = Compatible requested held is_compatible

-- An entry with another request.
abbrev pub offered : Entry → Option (ℕ × Span) → List Change
offered e r = if is_same_request r e.now then [] else with_request r e.change ∷ []

-- An entry with each other request: nothing, or a mode, for an instant and to commit.
abbrev pub requests_in : Entry → ℕ → List Change
requests_in e m = offered e (Some (m, Instant)) ++ offered e (Some (m, Commit))

abbrev pub requests_to : Protocol → Entry → List Change
requests_to p e = offered e None ++ flat_map (requests_in e) (modes p)

-- What a row requests at a side, with these own modes on the next name, and now this.
abbrev pub entry_of : Row → Side → Option ℕ → Option (ℕ × Span) → Entry
entry_of r s own_next now = record { change = Request r s own_next None; now = now }

-- A row that moves keys, with one own mode on the next name.
abbrev pub requests_with : Protocol → Row → Side → ℕ → List Change
requests_with p r s o = requests_to p (entry_of r s (Some (2 ^ o)) (p.ask r s o))

abbrev pub requests_by_own : Protocol → Row → Side → List Change
requests_by_own p r s = flat_map (requests_with p r s) (modes_or_none p)

abbrev pub requests_at : Protocol → Row × Side → List Change
requests_at p (r, s) = if moves_keys r then requests_by_own p r s else requests_to p (entry_of r s None (p.ask r s 0))

-- Each row, at each side at which it requests a lock.
abbrev pub places : Protocol → List (Row × Side)
places p = (FetchHit, Current) ∷ (FetchMiss, Next) ∷ (ScanKey, Current) ∷ (ScanStop, Next) ∷ (Insert, Current) ∷ (Insert, Next) ∷ (Delete, Current) ∷ (Delete, Next) ∷ if_updating p ((Update, Current) ∷ [])

abbrev pub requests : Protocol → List Change
requests p = flat_map (requests_at p) (places p)

-- All changes of one entry, where deletes leave no ghosts.
abbrev pub changes_of : Protocol → List Change
changes_of p = compatibles p ++ (conversions p ++ requests p)
