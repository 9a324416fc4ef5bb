-- A change as an edit of the table's file.
use Rattle.std.specs.Prelude.{ℕ, List, [], ◌++◌, Bool, true, false, Option, Some, None, codes}
use Rattle.kr_model.specs.declared.Row.{Row}
use Rattle.kr_model.specs.declared.Side.{Side}
use Rattle.kr_model.specs.declared.Span.{Span}
use Rattle.kr_model.specs.Protocol.{Protocol}
use Rattle.kr_model.specs.ModeNames.{name_of}
use Rattle.kr_model.specs.Words.{row_word, side_word, span_word}
use Rattle.kr_change.specs.declared.change.GhostRow.{GhostRow}
use Rattle.kr_change.specs.declared.change.Change.{Change}
use Rattle.kr_change.specs.declared.change.Change.TheVariants.{Request, GhostRequest, Convert, Heir, Compatible}
use Rattle.kr_change.specs.ChangeNames.{ghost_row_word, heir_words, listed_words}

-- Whether a mode comes into a list, or leaves it.
abbrev pub add_or_remove : Bool → List ℕ
add_or_remove true = codes "add"
add_or_remove false = codes "remove"

-- An edit of the modes that a mode is compatible with.
unfoldable pub pair_edit : List (List ℕ) → ℕ → ℕ → Bool → List ℕ
pair_edit names requested held is_compatible = codes "in [compatible], " ++ (name_of names requested ++ (codes ": " ++ (add_or_remove is_compatible ++ (codes " " ++ name_of names held))))

-- An edit of a conversion.
unfoldable pub convert_edit : List (List ℕ) → ℕ → ℕ → ℕ → List ℕ
convert_edit names held requested mode = codes "in [convert], " ++ (name_of names held ++ (codes ": " ++ (name_of names requested ++ (codes " = \"" ++ (name_of names mode ++ codes "\"")))))

-- What is requested: a mode, and for how long.
unfoldable pub asked_words : List (List ℕ) → Option (ℕ × Span) → List ℕ
asked_words names None = codes "nothing"
asked_words names (Some (mode, span)) = name_of names mode ++ (codes " for " ++ (span_word span ++ codes " duration"))

-- With which own modes on the next name, if not with all.
abbrev pub where_words : Protocol → List (List ℕ) → Option ℕ → List ℕ
where_words p names None = []
where_words p names (Some modes) = listed_words p names (codes " where the own mode on the next key is") modes

-- An edit of what a row requests at a side.
unfoldable pub request_edit : Protocol → List (List ℕ) → Row → Side → Option ℕ → Option (ℕ × Span) → List ℕ
request_edit p names row side own_next request = codes "in [rules." ++ (row_word row ++ (codes "], " ++ (side_word side ++ (codes ": request " ++ (asked_words names request ++ where_words p names own_next)))))

-- An edit of what a row that only tables with ghosts have requests at a side.
unfoldable pub ghost_request_edit : List (List ℕ) → GhostRow → Side → Option (ℕ × Span) → List ℕ
ghost_request_edit names row side request = codes "in [rules." ++ (ghost_row_word row ++ (codes "], " ++ (side_word side ++ (codes ": request " ++ asked_words names request))))

-- An edit of what is inherited by who has one of these modes.
unfoldable pub heir_edit : Protocol → List (List ℕ) → ℕ → ℕ → List ℕ
heir_edit p names held mode = listed_words p names (codes "in [purge],") held ++ (codes ": " ++ heir_words names mode)

-- The edit that makes a change of p, whose modes have these names.
abbrev pub edit_words : Protocol → List (List ℕ) → Change → List ℕ
edit_words p names (Compatible requested held is_compatible) = pair_edit names requested held is_compatible
edit_words p names (Convert held requested mode) = convert_edit names held requested mode
edit_words p names (Request row side own_next request) = request_edit p names row side own_next request
edit_words p names (GhostRequest row side request) = ghost_request_edit names row side request
edit_words p names (Heir held mode) = heir_edit p names held mode
