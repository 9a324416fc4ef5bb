-- The causes of a table, as they stand in its page.
use Rattle.std.specs.Prelude.{◌≡◌, ℕ, ◌==◌, Bool, true, false, List, [], ◌++◌, Option, Some, None, nat_le, codes, decimal, if◌then◌else◌}
use Rattle.kr_model.specs.Protocol.{Protocol}
use Rattle.kr_view_scenes.specs.Escape.{escaped}
use Rattle.kr_view_scenes.specs.Parts.{IsMadeOfParts}
use Rattle.kr_view_scenes.specs.Scenes.{drawn_steps}
use Rattle.kr_view_run.specs.Page.{AreBands}
use Rattle.kr_explain_text.specs.Titles.{IsTitle}
use Rattle.kr_explain_core.specs.Blocks.{AreNumbered}
use Rattle.kr_explain_core.specs.declared.run.Run.{Run}
use Rattle.kr_explain_core.specs.declared.explanation.Explained.{Explained}
use Rattle.kr_view_table.specs.declared.causes.TheConstants.{CAUSES}
use Rattle.kr_view_table.specs.declared.schedule.TheConstants.{MOST_DRAWN, UNDRAWN}

-- What the ids of the bands of the cause of a number begin with.
abbrev pub ids_of : ℕ → List ℕ
ids_of n = codes "c" ++ (decimal n ++ codes "s")

-- The schedule of the cause of a number: a band for each of the steps of the run, in order. What stands around them is made of parts.
pub record IsFolded (p : Protocol) (n : ℕ) (run : Run) (text : List ℕ) : Type 0 where
  pub summary : List ℕ
  pub before : List ℕ
  pub bands : List ℕ
  pub behind : List ℕ
  pub summary_made : IsMadeOfParts summary
  pub before_made : IsMadeOfParts before
  pub behind_made : IsMadeOfParts behind
  pub are_bands : AreBands (ids_of n) (drawn_steps p run.script.opening.items run.script.events.items) bands
  pub written : text ≡ codes "<details>\n<summary>" ++ (summary ++ (codes "</summary>\n" ++ (before ++ (bands ++ (behind ++ codes "</details>\n")))))

-- The schedule of the cause of a number, where it is among those that are drawn, and else what stands in its place.
abbrev pub IsDrawnIf : Bool → Protocol → ℕ → Run → List ℕ → Type 0
IsDrawnIf true p n run text = IsFolded p n run text
IsDrawnIf false p n run text = text ≡ UNDRAWN.now

-- The schedule of the cause of a number, if it has one.
abbrev pub IsDrawn : Protocol → ℕ → Option Run → List ℕ → Type 0
IsDrawn p n None text = text ≡ []
IsDrawn p n (Some run) text = IsDrawnIf (nat_le n MOST_DRAWN) p n run text

-- The block of the cause of a number: its title, then what is made of parts, and its schedule.
pub record IsCauseBlock (p : Protocol) (names : List (List ℕ)) (n : ℕ) (e : Explained) (text : List ℕ) : Type 0 where
  pub title : List ℕ
  pub telling : List ℕ
  pub schedule : List ℕ
  pub is_title : IsTitle p names n e.cause title
  pub telling_made : IsMadeOfParts telling
  pub is_drawn : IsDrawn p n e.run schedule
  pub written : text ≡ codes "<section id=\"s" ++ (decimal n ++ (codes "\" class=\"cause\">\n<h3>" ++ (escaped title ++ (codes "</h3>\n" ++ (telling ++ (schedule ++ codes "</section>\n"))))))

-- A block for each of the causes, in their order, from this number on.
abbrev pub AreCauses : Protocol → List (List ℕ) → ℕ → List Explained → List ℕ → Type 0
AreCauses p names = AreNumbered (IsCauseBlock p names)

-- What stands before so many causes.
abbrev pub causes_heading : ℕ → List ℕ
causes_heading n = if n == 0 then [] else CAUSES.now
