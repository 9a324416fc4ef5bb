-- What the page of a table with ghosts is.
use Rattle.std.specs.Prelude.{◌≡◌, ◌↔◌, ◌==◌, ℕ, Bool, IsTrue, List, [], ◌++◌, Some, codes, decimal, length, if◌then◌else◌}
use Rattle.std.specs.Str.{chars}
use Rattle.kr_explain_core.specs.declared.explanation.Explanation.{Explanation}
use Rattle.kr_explain_core.specs.declared.explanation.Explanation.TheVariants.{Accepted}
use Rattle.kr_ghost.specs.Protocol.{GhostProtocol}
use Rattle.kr_ghost.specs.Covers.{cases, failed_cases}
use Rattle.kr_ghost.specs.Safe.{IsSafeGhost}
use Rattle.kr_view_scenes.specs.Escape.{escaped, unescaped}
use Rattle.kr_view_table.specs.Page.{page_of}
use Rattle.kr_view_table.specs.Matrices.{matrix_words}
use Rattle.kr_view_table.specs.Rules.{rules_words}
use Rattle.kr_view_table.specs.declared.matrices.Matrix.TheVariants.{Compatible, Converted}
use Rattle.kr_ghost_view_table.specs.Ghosts.{ghosts_words}
use Rattle.kr_ghost_view_table.specs.Covers.{covers_words}
use Rattle.kr_ghost_view_table.specs.Cases.{cases_words}

-- The verdict on a table that is safe or isn't, of which so many cases fail.
abbrev pub verdict_words : Bool → ℕ → ℕ → List ℕ
verdict_words safe failed n =
    if failed == 0 then codes "accepted: all " ++ (decimal n ++ codes " cases hold. Every run under this table is serializable in commit order.")
    else if safe then codes "safe: " ++ (decimal failed ++ (codes " of " ++ (decimal n ++ codes " cases fail, but no schedule reaches their locks. Every run under this table is serializable in commit order.")))
    else codes "rejected: " ++ (decimal failed ++ (codes " of " ++ (decimal n ++ codes " cases fail.")))

-- The matrices and the rules, in which no cause is told, what is done with ghosts, and what the modes protect.
abbrev pub tables_words : GhostProtocol → List (List ℕ) → List ℕ
tables_words p names =
    matrix_words p.table names (Accepted 0) Compatible ++ (matrix_words p.table names (Accepted 0) Converted ++ (rules_words p.table names [] ++ (ghosts_words p names ++ covers_words p names)))

-- A whole page of the table p, with these names of its modes, under a name, escaped, that reads as this one. It says accepted where no case fails, and else safe or rejected, exactly where p is safe. Its tables say what p does, and it has an item for each case that fails.
pub record IsGhostTablePage (p : GhostProtocol) (names : List (List ℕ)) (table page : List ℕ) (safe : Bool) : Type 0 where
  pub reads : unescaped (chars (escaped table)) ≡ Some (chars table)
  pub is_safe : IsTrue safe ↔ IsSafeGhost p
  pub is_page : page ≡ page_of (escaped table) safe (escaped (verdict_words safe (length (failed_cases p)) (length (cases p)))) (tables_words p names) (cases_words names (failed_cases p))
