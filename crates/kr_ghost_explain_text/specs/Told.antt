-- How what is explained of a table with ghosts is written.
use Rattle.std.specs.Prelude.{◌≡◌, ℕ, ◌+◌, List, [], ◌∷◌, ◌++◌, Bool, true, false, Option, Some, None, length, codes, decimal, is_some}
use Rattle.kr_explain_text.specs.Edits.{IsMending}
use Rattle.kr_explain_text.specs.Whole.{accepted_words, causes_words, rejected_words}
use Rattle.kr_ghost_explain.specs.declared.explanation.MendedCause.{MendedCause}
use Rattle.kr_ghost_explain.specs.declared.explanation.GhostExplanation.{GhostExplanation}
use Rattle.kr_ghost_explain.specs.declared.explanation.GhostExplanation.TheVariants as told
use Rattle.kr_ghost_explain_text.specs.Titles.{title_words}

-- The words that the text of a table begins with that is safe, though cases of it fail.
abbrev pub safe_words : ℕ → ℕ → List ℕ
safe_words failed cases = codes "safe: " ++ (decimal failed ++ (codes " of " ++ (decimal cases ++ codes " cases fail, but no schedule reaches their locks. Every run under this table is serializable in commit order.")))

-- The words that a text begins with: the verdict, and how many cases hold or fail and how many causes that has.
abbrev pub verdict_words : GhostExplanation → List ℕ
verdict_words (told.Accepted n) = accepted_words n
verdict_words (told.Safe f) = safe_words f.failed f.cases
verdict_words (told.Rejected f) = rejected_words (is_some f.schedule) f.failed f.cases ++ causes_words (length f.causes.items)

-- The block of the cause of a number, which is harmless or isn't: behind an empty line its title, then what is said of it, and then its fixes.
pub record IsGhostBlock (names : List (List ℕ)) (is_harmless : Bool) (n : ℕ) (m : MendedCause) (block : List ℕ) : Type 0 where
  pub said : List ℕ
  pub fixes : List ℕ
  -- each fix is an edit of the entry that the changes are of, to their modes
  pub is_mending : IsMending names is_harmless m.mend fixes
  pub written : block ≡ 10 ∷ 10 ∷ (title_words names n m.cause ++ (said ++ fixes))

-- A block for each of the causes, which are harmless or aren't, in their order; the first has this number.
abbrev pub AreGhostBlocks : List (List ℕ) → Bool → ℕ → List MendedCause → List ℕ → Type 0
AreGhostBlocks names is_harmless n [] text = text ≡ []
AreGhostBlocks names is_harmless n (m ∷ ms) text =
    (block rest : List ℕ) × (IsGhostBlock names is_harmless n m block × (AreGhostBlocks names is_harmless (n + 1) ms rest × (text ≡ block ++ rest)))

-- The commands that run the schedule, of the table that a word names, behind an empty line.
abbrev pub replay_words : List ℕ → List ℕ
replay_words word =
    codes "\n\nTo replay the schedule:\n    kr explain " ++ (word ++ (codes " --script 1 >schedule.json\n    kr run " ++ (word ++ codes " schedule.json")))

-- What is said behind the causes of a table that isn't safe: the schedule that goes wrong, and behind it how to run it; or that none was found.
abbrev pub IsEnd : {A : Type 0} → List ℕ → Option A → List ℕ → Type 0
IsEnd word None end = end ≡ codes "\n\nNo schedule that goes wrong was found. That does not prove that no schedule does."
IsEnd word (Some schedule) end = (run : List ℕ) × (end ≡ run ++ replay_words word)

-- What is told of all causes, which are harmless or aren't: a block for each in order, from 1, and behind them this end.
pub record TellsGhostCauses (names : List (List ℕ)) (is_harmless : Bool) (causes : List MendedCause) (end text : List ℕ) : Type 0 where
  pub blocks : List ℕ
  pub are_blocks : AreGhostBlocks names is_harmless 1 causes blocks
  pub written : text ≡ blocks ++ end

-- What comes between the verdict and the last line feed, of the table that a word names: nothing where all cases hold, and else each cause, which is harmless where the table is safe.
abbrev pub TellsGhosts : List (List ℕ) → List ℕ → GhostExplanation → List ℕ → Type 0
TellsGhosts names word (told.Accepted cases) text = text ≡ []
TellsGhosts names word (told.Safe f) text = TellsGhostCauses names true f.causes.items [] text
TellsGhosts names word (told.Rejected f) text = (end : List ℕ) × (IsEnd word f.schedule end × TellsGhostCauses names false f.causes.items end text)

-- A text of an explanation of a table that a word names, with these names of its modes: it begins with the verdict, then has each cause in order, and how to run a schedule that goes wrong, and ends with a line feed.
abbrev pub IsGhostText : List (List ℕ) → List ℕ → GhostExplanation → List ℕ → Type 0
IsGhostText names word e text = (telling : List ℕ) × (TellsGhosts names word e telling × (text ≡ verdict_words e ++ (telling ++ 10 ∷ [])))
