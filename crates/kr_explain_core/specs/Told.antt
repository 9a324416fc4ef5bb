-- How an explanation is written: its text, and the lines of its runs.
use Rattle.std.specs.Prelude.{◌≡◌, ℕ, List, ◌++◌, [], ◌∷◌, length, Bool, true, false, Option, Some, None, codes, decimal}
use Rattle.kr_model.specs.Protocol.{Protocol}
use Rattle.kr_explain_text.specs.Whole.{accepted_words, causes_words, rejected_words}
use Rattle.kr_explain_core.specs.declared.run.Run.{Run}
use Rattle.kr_explain_core.specs.declared.explanation.Explanation.{Explanation}
use Rattle.kr_explain_core.specs.declared.explanation.Explanation.TheVariants as told
use Rattle.kr_explain_core.specs.Blocks.{TellsAll}
use Rattle.kr_explain_core.specs.Lines.{IsLineOf}
use Rattle.kr_explain_core.specs.Explained.{has_run}

-- The words that the text of a table begins with that is safe, though cases of it fail.
abbrev pub safe_words : ℕ → ℕ → List ℕ
safe_words failed cases = codes "safe: " ++ (decimal failed ++ (codes " of " ++ (decimal cases ++ codes " cases fail, but no schedule reaches their locks. Every run is serializable in commit order.")))

-- What is said below the verdict of a table that is ordered: that the verdict is exact.
abbrev pub exact_words : Bool → List ℕ
exact_words true = 10 ∷ codes "This table is ordered, so the verdict is exact: safe if and only if every run is serializable in commit order."
exact_words false = []

-- What is said below the verdict of a table that isn't safe, where a run is known that goes wrong, or where none is: that the verdict is exact, or that the run shows it.
abbrev pub shown_words : Bool → Bool → List ℕ
shown_words true true = exact_words true
shown_words true false = 10 ∷ codes "This table is not ordered: a schedule below shows that some run is not serializable in commit order."
shown_words false is_ordered = []

-- The words that a text begins with: the verdict, how many cases hold or fail and how many causes that has, and whether the verdict is exact.
abbrev pub verdict_words : Explanation → List ℕ
verdict_words (told.Accepted n) = accepted_words n
verdict_words (told.Safe f) = safe_words f.failed f.cases ++ exact_words f.is_ordered
verdict_words (told.Rejected f) = rejected_words (has_run f) f.failed f.cases ++ (causes_words (length f.causes.items) ++ shown_words (has_run f) f.is_ordered)

-- A text of an explanation of a table p that a word names, with these names of its modes: it begins with the verdict, then has a block for each cause in order, and how to run a schedule of theirs, and ends with a line feed.
abbrev pub IsText : Protocol → List (List ℕ) → List ℕ → Explanation → List ℕ → Type 0
IsText p names word e text = (telling : List ℕ) × (TellsAll p names word e telling × (text ≡ verdict_words e ++ telling ++ 10 ∷ []))

-- The line of the script of a run, exactly where there is a run.
abbrev pub IsScriptOf : Option Run → Option (List ℕ) → Type 0
IsScriptOf None None = Unit {0}
IsScriptOf None (Some line) = ⊥
IsScriptOf (Some run) None = ⊥
IsScriptOf (Some run) (Some line) = IsLineOf run.script.opening.items run.script.events.items line
