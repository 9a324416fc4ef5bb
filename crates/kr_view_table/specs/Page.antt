-- What the page of a table is.
use Rattle.std.specs.Prelude.{◌≡◌, ℕ, Bool, true, false, List, ◌++◌, Some, codes, length}
use Rattle.std.specs.Str.{chars}
use Rattle.kr_model.specs.Protocol.{Protocol}
use Rattle.kr_view_scenes.specs.Escape.{escaped, unescaped}
use Rattle.kr_view_run.specs.declared.frame.TheConstants.{END}
use Rattle.kr_view_run.specs.Page.{page_head}
use Rattle.kr_view_run.specs.Signs.{tick, cross}
use Rattle.kr_explain_core.specs.Explained.{IsExplained, is_safe}
use Rattle.kr_explain_core.specs.Told.{verdict_words}
use Rattle.kr_explain_core.specs.declared.explanation.Explanation.{Explanation}
use Rattle.kr_view_table.specs.declared.frame.TheConstants.{TABLE, TABLE_LOOK, BEHIND_VERDICT}
use Rattle.kr_view_table.specs.declared.matrices.Matrix.TheVariants.{Compatible, Converted}
use Rattle.kr_view_table.specs.Told.{causes_of}
use Rattle.kr_view_table.specs.Matrices.{matrix_words}
use Rattle.kr_view_table.specs.Rules.{rules_words}
use Rattle.kr_view_table.specs.Covers.{covers_words}
use Rattle.kr_view_table.specs.Causes.{AreCauses, causes_heading}

-- How the verdict on a table begins: it is safe, or it isn't.
abbrev pub safe_words : Bool → List ℕ
safe_words true = codes "<p class=\"verdict yes\"><b>" ++ (tick ++ codes "</b> ")
safe_words false = codes "<p class=\"verdict no\"><b>" ++ (cross ++ codes "</b> ")

-- A page with a name in its title and its heading, whether the table is safe, the verdict, the tables, and the causes.
abbrev pub page_of : List ℕ → Bool → List ℕ → List ℕ → List ℕ → List ℕ
page_of name safe verdict tables causes =
    page_head TABLE.now TABLE_LOOK.now name ++ safe_words safe ++ verdict ++ BEHIND_VERDICT.now ++ tables ++ causes ++ END.now

-- The matrices, the rules, what the modes protect, and what stands before the causes.
abbrev pub tables_words : Protocol → List (List ℕ) → Explanation → List ℕ
tables_words p names e =
    matrix_words p names e Compatible ++ (matrix_words p names e Converted ++ (rules_words p names (causes_of e) ++ (covers_words p names ++ causes_heading (length (causes_of e)))))

-- A whole page of the table p, with these names of its modes, under a name, escaped, that reads as this one. Its verdict is that of an explanation of p; so it says that p is accepted, safe or rejected exactly where it is. Its tables say what p does, and it has a block for each cause.
pub record IsTablePage (p : Protocol) (names : List (List ℕ)) (table page : List ℕ) : Type 0 where
  pub explanation : Explanation
  pub causes : List ℕ
  pub explained : IsExplained p explanation
  pub reads : unescaped (chars (escaped table)) ≡ Some (chars table)
  pub are_causes : AreCauses p names 1 (causes_of explanation) causes
  pub is_page : page ≡ page_of (escaped table) (is_safe explanation) (escaped (verdict_words explanation)) (tables_words p names explanation) causes
