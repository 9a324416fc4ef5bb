-- What each mode of a table protects, as it stands in its page.
use Rattle.std.specs.Prelude.{ℕ, ◌==◌, List, [], ◌++◌, Option, Some, None, codes, flat_map, if◌then◌else◌}
use Rattle.kr_model.specs.declared.Cover.{Cover}
use Rattle.kr_model.specs.declared.Requester.{Requester}
use Rattle.kr_model.specs.ModeNames.{name_of}
use Rattle.kr_model.specs.Protocol.{Protocol}
use Rattle.kr_model.specs.Covers.{all_covers, modes}
use Rattle.kr_cases.specs.Holes.{first_open}
use Rattle.kr_view_scenes.specs.Escape.{escaped}
use Rattle.kr_view_run.specs.Signs.{tick, cross}
use Rattle.kr_explain_text.specs.Words.{cover_words, deed_words}
use Rattle.kr_view_table.specs.declared.covers.TheConstants.{COVERS}

-- The head of the column of a cover.
abbrev pub cover_head : Cover → List ℕ
cover_head c = codes "<th scope=\"col\">" ++ (cover_words c ++ codes "</th>")

-- The own mode of a requester, if it has one.
abbrev pub holding : List (List ℕ) → ℕ → List ℕ
holding names own = if own == 0 then [] else codes ", holding " ++ escaped (name_of names own)

-- The cell of a mode that protects what it must, and the beginning of that of one that doesn't.
abbrev pub whole_cell : List ℕ
whole_cell = codes "<td class=\"whole\">" ++ (tick ++ codes "</td>")

abbrev pub open_cell : List ℕ
open_cell = codes "<td>" ++ (cross ++ codes " ")

-- The cell of a mode and a cover, by the first requester that the mode lets in: what that one can do, and what it holds.
abbrev pub cover_cell : List (List ℕ) → Option Requester → List ℕ
cover_cell names None = whole_cell
cover_cell names (Some x) = open_cell ++ (deed_words x.row x.side ++ (holding names x.own ++ codes "</td>"))

-- The row of a mode: its name, and a cell for each cover.
abbrev pub mode_row : Protocol → List (List ℕ) → ℕ → List ℕ
mode_row p names m =
    codes "<tr class=\"mode\"><th scope=\"row\">" ++ (escaped (name_of names m) ++ (codes "</th>" ++ (flat_map (λ c. cover_cell names (first_open p c m)) (all_covers p) ++ codes "</tr>\n")))

-- A head for each cover, and a row for each mode.
abbrev pub covers_words : Protocol → List (List ℕ) → List ℕ
covers_words p names =
    COVERS.now ++ (flat_map cover_head (all_covers p) ++ (codes "</tr></thead>\n<tbody>\n" ++ (flat_map (mode_row p names) (modes p) ++ codes "</tbody></table></div>\n")))
