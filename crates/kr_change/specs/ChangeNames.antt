-- The name of a change: the entry of the table, with its other value.
use Rattle.std.specs.Prelude.{ℕ, List, [], ◌++◌, ◌==◌, Bool, true, false, Option, Some, None, codes, flat_map, if◌then◌else◌}
use Rattle.std.specs.Int.{bit_at}
use Rattle.kr_model.specs.declared.Row.{Row}
use Rattle.kr_model.specs.declared.Side.{Side}
use Rattle.kr_model.specs.declared.Span.{Span}
use Rattle.kr_model.specs.Protocol.{Protocol}
use Rattle.kr_model.specs.Covers.{modes_or_none}
use Rattle.kr_model.specs.ModeNames.{name_of}
use Rattle.kr_model.specs.Words.{row_word, side_word, span_word}
use Rattle.kr_change.specs.declared.change.GhostRow.{GhostRow}
use Rattle.kr_change.specs.declared.change.GhostRow.TheVariants.{Revive, InsertHit, DeleteMiss, UpdateMiss}
use Rattle.kr_change.specs.declared.change.Change.{Change}
use Rattle.kr_change.specs.declared.change.Change.TheVariants.{Request, GhostRequest, Convert, Heir, Compatible}

-- A row that only tables with ghosts have, as tables name it.
abbrev pub ghost_row_word : GhostRow → List ℕ
ghost_row_word Revive = codes "revive"
ghost_row_word InsertHit = codes "insert-hit"
ghost_row_word DeleteMiss = codes "delete-miss"
ghost_row_word UpdateMiss = codes "update-miss"

-- Entries --

-- A requested mode beside a held one.
unfoldable pub pair_words : List (List ℕ) → ℕ → ℕ → List ℕ
pair_words names requested held = name_of names requested ++ (codes " beside " ++ name_of names held)

-- A held mode, and one that is requested.
unfoldable pub conversion_words : List (List ℕ) → ℕ → ℕ → List ℕ
conversion_words names held requested = name_of names held ++ (codes " held, " ++ (name_of names requested ++ codes " asked"))

-- The name of a mode whose bit is set.
unfoldable pub own_word : List (List ℕ) → ℕ → ℕ → List ℕ
own_word names modes o = if bit_at modes o == 1 then codes " " ++ name_of names o else []

-- A text, and behind it the own modes on the next name whose bits are set, none among them.
abbrev pub listed_words : Protocol → List (List ℕ) → List ℕ → ℕ → List ℕ
listed_words p names head modes = head ++ flat_map (own_word names modes) (modes_or_none p)

-- For which own modes on the next name an entry is, if not for all.
abbrev pub owns_words : Protocol → List (List ℕ) → Option ℕ → List ℕ
owns_words p names None = []
owns_words p names (Some modes) = listed_words p names (codes " own") modes

-- A row at a side, with some own modes on the next name.
unfoldable pub place_words : Protocol → List (List ℕ) → Row → Side → Option ℕ → List ℕ
place_words p names row side own_next = row_word row ++ (codes " " ++ (side_word side ++ owns_words p names own_next))

-- A row that only tables with ghosts have, at a side.
unfoldable pub ghost_place_words : GhostRow → Side → List ℕ
ghost_place_words row side = ghost_row_word row ++ (codes " " ++ side_word side)

-- The name of the entry that a change is of.
abbrev pub entry_words : Protocol → List (List ℕ) → Change → List ℕ
entry_words p names (Compatible requested held is_compatible) = pair_words names requested held
entry_words p names (Convert held requested mode) = conversion_words names held requested
entry_words p names (Request row side own_next request) = place_words p names row side own_next
entry_words p names (GhostRequest row side request) = ghost_place_words row side
entry_words p names (Heir held mode) = listed_words p names (codes "heir of") held

-- Values --

-- Whether two modes are compatible.
abbrev pub yes_or_no : Bool → List ℕ
yes_or_no true = codes "yes"
yes_or_no false = codes "no"

-- A request: its mode, and how long it is held.
unfoldable pub request_words : List (List ℕ) → Option (ℕ × Span) → List ℕ
request_words names None = codes "nothing"
request_words names (Some (mode, span)) = name_of names mode ++ (codes " " ++ span_word span)

-- A mode that is inherited.
unfoldable pub heir_words : List (List ℕ) → ℕ → List ℕ
heir_words names mode = if mode == 0 then codes "none" else name_of names mode

-- The value that the entry has with a change.
abbrev pub value_words : List (List ℕ) → Change → List ℕ
value_words names (Compatible requested held is_compatible) = yes_or_no is_compatible
value_words names (Convert held requested mode) = name_of names mode
value_words names (Request row side own_next request) = request_words names request
value_words names (GhostRequest row side request) = request_words names request
value_words names (Heir held mode) = heir_words names mode

-- The name of a change of p, whose modes have these names.
unfoldable pub change_words : Protocol → List (List ℕ) → Change → List ℕ
change_words p names c = entry_words p names c ++ (codes ": " ++ value_words names c)
