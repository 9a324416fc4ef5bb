-- What each mode of a table with ghosts protects, as it stands in its page.
use Rattle.std.specs.Prelude.{ℕ, ◌==◌, List, [], ◌++◌, Option, Some, None, codes, flat_map, if◌then◌else◌}
use Rattle.kr_model.specs.Firsts.{first}
use Rattle.kr_model.specs.ModeNames.{name_of}
use Rattle.kr_model.specs.Covers.{modes}
use Rattle.kr_ghost.specs.declared.cases.Access.{Access}
use Rattle.kr_ghost.specs.declared.cases.Access.TheVariants as access
use Rattle.kr_ghost.specs.declared.cases.Cover.{Cover}
use Rattle.kr_ghost.specs.declared.cases.Cover.TheVariants.{ReadKey, ReadGap, ChangedKey}
use Rattle.kr_ghost.specs.declared.cases.Requester.{Requester}
use Rattle.kr_ghost.specs.Protocol.{GhostProtocol}
use Rattle.kr_ghost.specs.Covers.{open_requesters}
use Rattle.kr_view_scenes.specs.Escape.{escaped}
use Rattle.kr_view_table.specs.Covers.{open_cell, whole_cell}
use Rattle.kr_ghost_view_table.specs.declared.covers.TheConstants.{COVERS}

-- What another transaction does.
abbrev pub deed_words : Access → List ℕ
deed_words access.Fetch = codes "a fetch"
deed_words access.Scan = codes "a scan"
deed_words access.Delete = codes "a delete"
deed_words access.Update = codes "an update"
deed_words access.Revive = codes "an insert of the ghost"
deed_words access.Insert = codes "an insert into the gap"
deed_words access.InsertHit = codes "an insert that finds the key"

-- The own mode of a requester, if it has one.
abbrev pub holding : List (List ℕ) → ℕ → List ℕ
holding names own = if own == 0 then [] else codes ", holding " ++ escaped (name_of names own)

-- What a requester does, and what it holds.
abbrev pub requester_words : List (List ℕ) → Requester → List ℕ
requester_words names x = deed_words x.access ++ holding names x.own

-- The cell of a mode and a cover, by the first requester that the mode lets through.
abbrev pub cover_cell : List (List ℕ) → Option Requester → List ℕ
cover_cell names None = whole_cell
cover_cell names (Some x) = open_cell ++ (requester_words names x ++ codes "</td>")

-- The cell of a cover.
abbrev pub cell : GhostProtocol → List (List ℕ) → ℕ → Cover → List ℕ
cell p names m c = cover_cell names (first (open_requesters p c m))

-- The row of a mode: its name, and a cell for each cover.
abbrev pub mode_row : GhostProtocol → List (List ℕ) → ℕ → List ℕ
mode_row p names m =
    codes "<tr class=\"mode\"><th scope=\"row\">" ++ (escaped (name_of names m) ++ (codes "</th>" ++ (cell p names m ReadKey ++ (cell p names m ReadGap ++ (cell p names m ChangedKey ++ codes "</tr>\n")))))

-- A row for each mode.
abbrev pub covers_words : GhostProtocol → List (List ℕ) → List ℕ
covers_words p names = COVERS.now ++ (flat_map (mode_row p names) (modes p.table) ++ codes "</tbody></table></div>\n")
