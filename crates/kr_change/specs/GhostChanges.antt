-- A table with ghosts with one entry changed, and a table of either kind.
use Rattle.std.specs.Prelude.{ℕ, ◌==◌, ◌&&◌, ◌||◌, nat_le, not, Bool, true, false, Option, None, is_none, option_map, if◌then◌else◌}
use Rattle.std.specs.Int.{bit_at}
use Rattle.kr_model.specs.declared.Row.{Row}
use Rattle.kr_model.specs.declared.Row.TheVariants as row
use Rattle.kr_model.specs.declared.Side.{Side}
use Rattle.kr_model.specs.declared.Side.TheVariants.{Current, Next}
use Rattle.kr_model.specs.declared.Span.{Span}
use Rattle.kr_model.specs.Words.{side_number}
use Rattle.kr_ghost.specs.declared.vain.Vain.{Vain}
use Rattle.kr_ghost.specs.declared.vain.Vain.TheVariants as vain
use Rattle.kr_ghost.specs.Covers.{has_row}
use Rattle.kr_ghost.specs.Protocol.{GhostProtocol, Purges, Unlocked, Inherit, inherits}
use Rattle.kr_kinds.specs.Kinds.{IndexProtocol, Gone, Leaves}
use Rattle.kr_change.specs.declared.change.GhostRow.{GhostRow}
use Rattle.kr_change.specs.declared.change.GhostRow.TheVariants.{Revive, InsertHit, DeleteMiss, UpdateMiss}
use Rattle.kr_change.specs.declared.change.Change.{Change}
use Rattle.kr_change.specs.declared.change.Change.TheVariants.{Request, GhostRequest, Convert, Heir, Compatible}
use Rattle.kr_change.specs.Changes.{changed, is_change, is_request}

-- The place of a row in its order, from 0.
abbrev pub ghost_row_number : GhostRow → ℕ
ghost_row_number Revive = 0
ghost_row_number InsertHit = 1
ghost_row_number DeleteMiss = 2
ghost_row_number UpdateMiss = 3

-- Whether two places of a table are the same.
abbrev pub is_same_ghost_place : GhostRow → Side → GhostRow → Side → Bool
is_same_ghost_place row side r s = (ghost_row_number row == ghost_row_number r) && (side_number side == side_number s)

-- What is requested at a place after a change, where this was.
abbrev pub ghost_ask_after : Change → GhostRow → Side → Option (ℕ × Span) → Option (ℕ × Span)
ghost_ask_after (GhostRequest row side request) r s now = if is_same_ghost_place row side r s then request else now
ghost_ask_after (Request row side own_next request) r s now = now
ghost_ask_after (Convert held requested mode) r s now = now
ghost_ask_after (Heir held mode) r s now = now
ghost_ask_after (Compatible requested held is_compatible) r s now = now

-- The same at the row of a vain step.
abbrev pub vain_ask_after : Change → Vain → Option (ℕ × Span) → Option (ℕ × Span)
vain_ask_after c vain.InsertHit now = ghost_ask_after c InsertHit Current now
vain_ask_after c vain.DeleteMiss now = ghost_ask_after c DeleteMiss Next now
vain_ask_after c vain.UpdateMiss now = ghost_ask_after c UpdateMiss Next now

-- The mode that is inherited after a change.
abbrev pub heir_after : Change → (ℕ → ℕ) → ℕ → ℕ
heir_after (Heir held mode) heir h = if bit_at held h == 1 then mode else heir h
heir_after (Request row side own_next request) heir h = heir h
heir_after (GhostRequest row side request) heir h = heir h
heir_after (Convert held requested mode) heir h = heir h
heir_after (Compatible requested held is_compatible) heir h = heir h

-- What becomes of the locks on a ghost that is purged, after a change.
abbrev pub purges_after : Change → Purges → Purges
purges_after c Unlocked = Unlocked
purges_after c (Inherit heir) = Inherit (heir_after c heir)

-- The table p with one entry changed.
abbrev pub changed_ghosts : GhostProtocol → Change → GhostProtocol
changed_ghosts p c = record {
  table = changed p.table c;
  revive = ghost_ask_after c Revive Current p.revive;
  revive_next = ghost_ask_after c Revive Next p.revive_next;
  vain = λ v. option_map (vain_ask_after c v) (p.vain v);
  insert_hit_next = ghost_ask_after c InsertHit Next p.insert_hit_next;
  purges = purges_after c p.purges;
}

-- Whether a row requests a lock at the side in p, by these own modes on the next name: only an insert goes by its own mode, and a delete requests nothing on the next name.
abbrev pub has_place : Row → Side → Option ℕ → Bool
has_place row.Insert side own_next = true
has_place row.Delete Current own_next = is_none own_next
has_place row.Delete Next own_next = false
has_place row.FetchHit side own_next = is_none own_next
has_place row.FetchMiss side own_next = is_none own_next
has_place row.ScanKey side own_next = is_none own_next
has_place row.ScanStop side own_next = is_none own_next
has_place row.Update side own_next = is_none own_next

-- Whether p has such a row, with a lock at the side.
abbrev pub has_ghost_place : GhostProtocol → GhostRow → Side → Bool
has_ghost_place p Revive side = true
has_ghost_place p InsertHit side = has_row p vain.InsertHit
has_ghost_place p DeleteMiss Next = has_row p vain.DeleteMiss
has_ghost_place p DeleteMiss Current = false
has_ghost_place p UpdateMiss Next = has_row p vain.UpdateMiss
has_ghost_place p UpdateMiss Current = false

-- Whether a change is one of p's: as without ghosts, but for what a delete requests on the next name; or of a row of p that only tables with ghosts have; or of what is inherited, by who has a mode.
abbrev pub is_ghost_change : GhostProtocol → Change → Bool
is_ghost_change p (Request row side own_next request) = has_place row side own_next && is_change p.table (Request row side own_next request)
is_ghost_change p (GhostRequest row side request) = has_ghost_place p row side && is_request p.table request
is_ghost_change p (Convert held requested mode) = is_change p.table (Convert held requested mode)
is_ghost_change p (Heir held mode) = inherits p.purges && (not (bit_at held 0 == 1) && nat_le mode p.table.count)
is_ghost_change p (Compatible requested held is_compatible) = is_change p.table (Compatible requested held is_compatible)

-- The table p, of either kind, with one entry changed.
abbrev pub changed_index : IndexProtocol → Change → IndexProtocol
changed_index (Gone p) c = Gone (changed p c)
changed_index (Leaves p) c = Leaves (changed_ghosts p c)

-- Whether a change is one of p's.
abbrev pub is_index_change : IndexProtocol → Change → Bool
is_index_change (Gone p) c = is_change p c
is_index_change (Leaves p) c = is_ghost_change p c
