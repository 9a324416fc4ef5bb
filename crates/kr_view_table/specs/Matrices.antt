-- The matrices of a table, as they stand in its page.
use Rattle.std.specs.Prelude.{ℕ, Bool, true, false, List, ◌++◌, codes, flat_map}
use Rattle.kr_model.specs.ModeNames.{name_of}
use Rattle.kr_model.specs.Protocol.{Protocol}
use Rattle.kr_model.specs.Covers.{modes}
use Rattle.kr_view_scenes.specs.Escape.{escaped}
use Rattle.kr_explain_core.specs.declared.explanation.Explanation.{Explanation}
use Rattle.kr_view_table.specs.declared.badges.Entry.TheVariants as entry
use Rattle.kr_view_table.specs.declared.matrices.Matrix.{Matrix}
use Rattle.kr_view_table.specs.declared.matrices.Matrix.TheVariants.{Compatible, Converted}
use Rattle.kr_view_table.specs.declared.matrices.TheConstants.{COMPATIBLE, CONVERTED, FITS, CLASH, FITS_APART, CLASH_APART}
use Rattle.kr_view_table.specs.Told.{causes_of, is_apart, is_unasked}
use Rattle.kr_view_table.specs.Badges.{badges}

-- The beginning of the cell of two modes that are compatible or aren't; where by the survey they don't come together, the mark is in brackets.
abbrev pub mark_of : Bool → Bool → List ℕ
mark_of true false = FITS.now
mark_of false false = CLASH.now
mark_of true true = FITS_APART.now
mark_of false true = CLASH_APART.now

-- The cell of a mode that two modes convert to; in brackets where by the survey no transaction comes to convert so.
abbrev pub converted_cell : Bool → List ℕ → List ℕ → List ℕ
converted_cell false name badges = codes "<td>" ++ (name ++ (badges ++ codes "</td>"))
converted_cell true name badges = codes "<td class=\"apart\">(" ++ (name ++ (codes ")" ++ (badges ++ codes "</td>")))

-- The cell of two modes: whether they are compatible, or the name of the mode that they convert to; and the numbers of the causes that blame it.
abbrev pub cell_words : Protocol → List (List ℕ) → Explanation → Matrix → ℕ → ℕ → List ℕ
cell_words p names e Compatible q h = mark_of (p.ok q h) (is_apart e q h) ++ (badges (entry.Pair q h) 1 (causes_of e) ++ codes "</td>")
cell_words p names e Converted h q = converted_cell (is_unasked e h q) (escaped (name_of names (p.convert h q))) (badges (entry.Conversion h q) 1 (causes_of e))

-- The row of a mode: its name, and a cell for each mode.
abbrev pub row_words : Protocol → List (List ℕ) → Explanation → Matrix → ℕ → List ℕ
row_words p names e which m = codes "<tr><th scope=\"row\">" ++ (escaped (name_of names m) ++ (codes "</th>" ++ (flat_map (cell_words p names e which m) (modes p) ++ codes "</tr>\n")))

-- The head of the column of a mode.
abbrev pub head_cell : List (List ℕ) → ℕ → List ℕ
head_cell names m = codes "<th scope=\"col\">" ++ (escaped (name_of names m) ++ codes "</th>")

-- What stands before the heads.
abbrev pub opening_of : Matrix → List ℕ
opening_of Compatible = COMPATIBLE.now
opening_of Converted = CONVERTED.now

-- A matrix: a head for each mode, and a row for each.
abbrev pub matrix_words : Protocol → List (List ℕ) → Explanation → Matrix → List ℕ
matrix_words p names e which =
    opening_of which ++ (flat_map (head_cell names) (modes p) ++ (codes "</tr></thead>\n<tbody>\n" ++ (flat_map (row_words p names e which) (modes p) ++ codes "</tbody></table></div>\n")))
