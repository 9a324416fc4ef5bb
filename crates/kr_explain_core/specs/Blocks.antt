-- The text of an explanation block by block: one for each cause, in order.
use Rattle.std.specs.Prelude.{◌≡◌, ◌+◌, ℕ, Bool, true, false, List, [], ◌∷◌, ◌++◌, is_some, Option, Some, None}
use Rattle.kr_model.specs.Protocol.{Protocol}
use Rattle.kr_explain_text.specs.Titles.{IsTitle}
use Rattle.kr_explain_text.specs.Edits.{IsMending}
use Rattle.kr_explain_text.specs.Steps.{IsSchedule}
use Rattle.kr_explain_text.specs.Whole.{command_words}
use Rattle.kr_explain_core.specs.Explained.{has_run}
use Rattle.kr_explain_core.specs.declared.run.Run.{Run}
use Rattle.kr_explain_core.specs.declared.explanation.Explained.{Explained}
use Rattle.kr_explain_core.specs.declared.explanation.Failures.{Failures}
use Rattle.kr_explain_core.specs.declared.explanation.Explanation.{Explanation}
use Rattle.kr_explain_core.specs.declared.explanation.Explanation.TheVariants as told

-- What is said of a cause between its title and its fixes: where it has a run, some prose, the schedule of the run under p, and some prose.
abbrev pub IsSaid : Protocol → List (List ℕ) → Option Run → List ℕ → Type 0
IsSaid p names None said = Unit {0}
IsSaid p names (Some run) said = IsSchedule p names run.script said

-- The block of the cause of a number, of a table p with these names of its modes: its title, then what is said of it, and then its fixes.
pub record IsBlock (p : Protocol) (names : List (List ℕ)) (n : ℕ) (e : Explained) (block : List ℕ) : Type 0 where
  pub title : List ℕ
  pub said : List ℕ
  pub fixes : List ℕ
  -- the title has the number, what is to blame, and how many of the cases are of each group
  pub is_title : IsTitle p names n e.cause title
  -- what is said has the schedule of the run, if the cause has one
  pub is_said : IsSaid p names e.run said
  -- each fix is an edit of the entry that the changes are of, to their modes
  pub is_mending : IsMending names (is_some e.harmless) e.mend fixes
  pub written : block ≡ title ++ (said ++ fixes)

-- A block for each of the causes, in their order: Is says what the block of a cause and its number is. The first has this number.
abbrev pub AreNumbered : (ℕ → Explained → List ℕ → Type 0) → ℕ → List Explained → List ℕ → Type 0
AreNumbered Is n [] text = text ≡ []
AreNumbered Is n (e ∷ es) text =
    (block rest : List ℕ) × (Is n e block × (AreNumbered Is (n + 1) es rest × (text ≡ block ++ rest)))

-- The same of the blocks of the text, of a table p with these names of its modes.
abbrev pub AreBlocks : Protocol → List (List ℕ) → ℕ → List Explained → List ℕ → Type 0
AreBlocks p names = AreNumbered (IsBlock p names)

-- What is said behind the blocks, of the table that a word names: how to run the schedule of a cause, where there is one.
abbrev pub end_words : Bool → List ℕ → List ℕ
end_words true word = command_words word
end_words false word = []

-- What is told of all causes: a block for each, from 1, and how to run a schedule of theirs.
pub record TellsCauses (p : Protocol) (names : List (List ℕ)) (word : List ℕ) (f : Failures) (text : List ℕ) : Type 0 where
  pub blocks : List ℕ
  pub are_blocks : AreBlocks p names 1 f.causes.items blocks
  pub written : text ≡ blocks ++ end_words (has_run f) word

-- What comes between the verdict and the last line feed: nothing where all cases hold, and else each cause.
abbrev pub TellsAll : Protocol → List (List ℕ) → List ℕ → Explanation → List ℕ → Type 0
TellsAll p names word (told.Accepted cases) text = text ≡ []
TellsAll p names word (told.Safe f) text = TellsCauses p names word f text
TellsAll p names word (told.Rejected f) text = TellsCauses p names word f text
