-- A table with one entry changed.
use Rattle.std.specs.Prelude.{ℕ, ◌==◌, ◌&&◌, ◌||◌, nat_lt, nat_le, Bool, true, false, Option, Some, None, is_none, if◌then◌else◌}
use Rattle.std.specs.Int.{bit_at}
use Rattle.kr_model.specs.declared.Row.{Row}
use Rattle.kr_model.specs.declared.Row.TheVariants.{FetchHit, FetchMiss, ScanKey, ScanStop, Insert, Delete, Update}
use Rattle.kr_model.specs.declared.Side.{Side}
use Rattle.kr_model.specs.declared.Side.TheVariants.{Current, Next}
use Rattle.kr_model.specs.declared.Span.{Span}
use Rattle.kr_model.specs.Protocol.{Protocol}
use Rattle.kr_model.specs.Words.{row_number, side_number}
use Rattle.kr_change.specs.declared.change.Change.{Change}
use Rattle.kr_change.specs.declared.change.Change.TheVariants.{Request, GhostRequest, Convert, Heir, Compatible}

-- The mode that is requested, if any is.
abbrev pub requested_mode : Option (ℕ × Span) → Option ℕ
requested_mode (Some (mode, span)) = Some mode
requested_mode None = None

-- The mode that the changed entry has, if it has one.
abbrev pub mode_of : Change → Option ℕ
mode_of (Request row side own_next request) = requested_mode request
mode_of (GhostRequest row side request) = requested_mode request
mode_of (Convert held requested mode) = Some mode
mode_of (Heir held mode) = Some mode
mode_of (Compatible requested held is_compatible) = None

-- The same request, if it is any, of another mode.
abbrev pub request_of_mode : ℕ → Option (ℕ × Span) → Option (ℕ × Span)
request_of_mode m (Some (mode, span)) = Some (m, span)
request_of_mode m None = None

-- The same change to another mode. One whose entry has none stays as it is.
abbrev pub with_mode : ℕ → Change → Change
with_mode m (Request row side own_next request) = Request row side own_next (request_of_mode m request)
with_mode m (GhostRequest row side request) = GhostRequest row side (request_of_mode m request)
with_mode m (Convert held requested mode) = Convert held requested m
with_mode m (Heir held mode) = Heir held m
with_mode m (Compatible requested held is_compatible) = Compatible requested held is_compatible

-- Whether two places of a table are the same.
abbrev pub is_same_place : Row → Side → Row → Side → Bool
is_same_place row side r s = (row_number row == row_number r) && (side_number side == side_number s)

-- Whether a change is of what is requested with the own mode o on the next name: it is of all, or bit o is set.
abbrev pub concerns : Option ℕ → ℕ → Bool
concerns None o = true
concerns (Some own_next) o = bit_at own_next o == 1

-- Whether a requested mode is compatible with a held one after a change.
abbrev pub ok_after : Protocol → Change → ℕ → ℕ → Bool
ok_after p (Compatible requested held is_compatible) q h = if (q == requested) && (h == held) then is_compatible else p.ok q h
ok_after p (Request row side own_next request) q h = p.ok q h
ok_after p (Convert held requested mode) q h = p.ok q h
ok_after p (GhostRequest row side request) q h = p.ok q h
ok_after p (Heir held mode) q h = p.ok q h

-- What modes convert to after a change.
abbrev pub convert_after : Protocol → Change → ℕ → ℕ → ℕ
convert_after p (Convert held requested mode) h q = if (h == held) && (q == requested) then mode else p.convert h q
convert_after p (Request row side own_next request) h q = p.convert h q
convert_after p (Compatible requested held is_compatible) h q = p.convert h q
convert_after p (GhostRequest row side request) h q = p.convert h q
convert_after p (Heir held mode) h q = p.convert h q

-- What is requested after a change.
abbrev pub ask_after : Protocol → Change → Row → Side → ℕ → Option (ℕ × Span)
ask_after p (Request row side own_next request) r s o = if is_same_place row side r s && concerns own_next o then request else p.ask r s o
ask_after p (Convert held requested mode) r s o = p.ask r s o
ask_after p (Compatible requested held is_compatible) r s o = p.ask r s o
ask_after p (GhostRequest row side request) r s o = p.ask r s o
ask_after p (Heir held mode) r s o = p.ask r s o

-- The table p with one entry changed.
abbrev pub changed : Protocol → Change → Protocol
changed p c = record { count = p.count; ok = ok_after p c; convert = convert_after p c; ask = ask_after p c; updates = p.updates }

-- Whether a row moves keys: what it requests may go by the own mode on the next name.
abbrev pub moves_keys : Row → Bool
moves_keys Insert = true
moves_keys Delete = true
moves_keys FetchHit = false
moves_keys FetchMiss = false
moves_keys ScanKey = false
moves_keys ScanStop = false
moves_keys Update = false

-- Whether a row requests a lock at the side.
abbrev pub has_side : Row → Side → Bool
has_side FetchHit Current = true
has_side FetchMiss Next = true
has_side ScanKey Current = true
has_side ScanStop Next = true
has_side Insert s = true
has_side Delete s = true
has_side Update Current = true
has_side _ _ = false

-- Whether a row is offered: an update only where p offers updates.
abbrev pub is_offered : Protocol → Row → Bool
is_offered p Update = p.updates
is_offered p FetchHit = true
is_offered p FetchMiss = true
is_offered p ScanKey = true
is_offered p ScanStop = true
is_offered p Insert = true
is_offered p Delete = true

-- Whether a number is a mode.
abbrev pub is_mode : Protocol → ℕ → Bool
is_mode p m = nat_lt 0 m && nat_le m p.count

-- Whether nothing is requested, or a mode.
abbrev pub is_request : Protocol → Option (ℕ × Span) → Bool
is_request p None = true
is_request p (Some (m, span)) = is_mode p m

-- Whether a change is one of p's, whose deletes leave no ghosts: it is of modes of p; of a row that is offered, at a side where it requests a lock; and by own modes only where the row moves keys.
abbrev pub is_change : Protocol → Change → Bool
is_change p (Request row side own_next request) = is_request p request && ((moves_keys row || is_none own_next) && (is_offered p row && has_side row side))
is_change p (Convert held requested mode) = is_mode p held && (is_mode p requested && is_mode p mode)
is_change p (Compatible requested held is_compatible) = is_mode p requested && is_mode p held
is_change p (GhostRequest row side request) = false
is_change p (Heir held mode) = false
