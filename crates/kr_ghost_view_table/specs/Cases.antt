-- The cases of a table with ghosts that fail, as they stand in its page.
use Rattle.std.specs.Prelude.{ℕ, List, [], ◌∷◌, ◌++◌, codes, flat_map}
use Rattle.kr_model.specs.declared.Origin.{Origin}
use Rattle.kr_model.specs.declared.Origin.TheVariants as origin
use Rattle.kr_ghost.specs.declared.cases.FailedCase.{FailedCase}
use Rattle.kr_ghost.specs.Words.{cover_code, rule_code}
use Rattle.kr_ghost_view_table.specs.declared.cases.TheConstants.{CASES}
use Rattle.kr_ghost_view_table.specs.Covers.{requester_words}
use Rattle.kr_ghost_view_table.specs.Ghosts.{mode_words}

-- The modes that a case is taken at.
abbrev pub origin_words : List (List ℕ) → Origin → List ℕ
origin_words names (origin.Own o) = mode_words names o
origin_words names (origin.Conversion h q) = mode_words names h ++ (codes " and " ++ mode_words names q)
origin_words names (origin.Insert n o) = mode_words names n

-- The item of a case: its group, its cover, the modes that it is taken at, and the first requester that the mode lets through which has to serve the cover.
abbrev pub case_item : List (List ℕ) → FailedCase → List ℕ
case_item names f =
    codes "<li>" ++ (rule_code f.case ++ (codes " " ++ (cover_code f.cover ++ (codes ", from " ++ (origin_words names f.from ++ (codes ": " ++ (mode_words names f.mode ++ (codes " lets through " ++ (requester_words names f.hole ++ codes "</li>\n")))))))))

-- An item for each failed case, in order; nothing where all cases hold.
abbrev pub cases_words : List (List ℕ) → List FailedCase → List ℕ
cases_words names [] = []
cases_words names (f ∷ fs) = CASES.now ++ (flat_map (case_item names) (f ∷ fs) ++ codes "</ol>\n")
