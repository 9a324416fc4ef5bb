-- The explanation of the table that bytes are, and the scripts of its causes.
use Rattle.std.specs.Prelude.{◌≡◌, ◌↔◌, ℕ, Bool, List, Option, Some, None, IsTrue, codes}
use Rattle.kr_model.specs.Protocol.{Protocol}
use Rattle.kr_model.specs.Safe.{IsSafe}
use Rattle.kr_theorem.specs.Wrong.{GoesWrong}
use Rattle.kr_explain_core.specs.Explained.{IsExplained, is_safe, run_at}
use Rattle.kr_explain_core.specs.Told.{IsText}
use Rattle.kr_explain_core.specs.Lines.{IsLineOf}
use Rattle.kr_explain_core.specs.declared.explanation.Explanation.{Explanation}
use Rattle.kr_explain_core.specs.declared.run.Run.{Run}
use Rattle.kr_ghost.specs.Protocol.{GhostProtocol}
use Rattle.kr_ghost.specs.Safe.{IsSafeGhost}
use Rattle.kr_ghost_explain.specs.Explained as ghosts
use Rattle.kr_ghost_explain.specs.Lines.{IsGhostLineOf}
use Rattle.kr_ghost_explain.specs.declared.explanation.GhostExplanation.{GhostExplanation}
use Rattle.kr_ghost_explain.specs.declared.schedule.GhostSchedule.{GhostSchedule}
use Rattle.kr_ghost_explain_text.specs.Told.{IsGhostText}
use Rattle.kr_cli.specs.declared.named.Named.{Named}
use Rattle.kr_cli.specs.declared.named.Named.TheVariants.{Table, Ghosts}
use Rattle.kr_cli.specs.Tables.{table_of, names_of}
use Rattle.kr_cli.specs.GhostTables as ghost
use Rattle.kr_embed.specs.Inputs.{IsTable}

-- Without ghosts --

-- A whole text of an explanation of a table p with these names of its modes, of which a command says `table`, and whether p is safe.
pub record IsExplanationOf (p : Protocol) (names : List (List ℕ)) (safe : Bool) (text : List ℕ) : Type 0 where
  pub explanation : Explanation
  pub explained : IsExplained p explanation
  -- the text begins with the verdict, and has a block for each cause, with its title and its fixes
  pub is_text : IsText p names (codes "table") explanation text
  pub verdict : is_safe explanation ≡ safe
  pub is_so : IsTrue safe ↔ IsSafe p

-- The line reads as the script of the run of p's cause of this number, which goes wrong under p.
pub record IsScriptOfCause (p : Protocol) (number : ℕ) (line : List ℕ) : Type 0 where
  pub explanation : Explanation
  pub run : Run
  pub explained : IsExplained p explanation
  pub numbered : run_at number explanation ≡ Some run
  pub wrong : GoesWrong p run.script.opening.items run.script.events.items
  pub is_line : IsLineOf run.script.opening.items run.script.events.items line

-- No run of p's cause of this number is known, or there is no such cause.
pub record HasNoScript (p : Protocol) (number : ℕ) : Type 0 where
  pub explanation : Explanation
  pub explained : IsExplained p explanation
  pub none : run_at number explanation ≡ None

-- The script of p's cause of this number, exactly where there is one.
abbrev pub IsScriptAt : Protocol → ℕ → Option (List ℕ) → Type 0
IsScriptAt p number (Some line) = IsScriptOfCause p number line
IsScriptAt p number None = HasNoScript p number

-- With ghosts --

-- A whole text of an explanation of a table p with ghosts, with these names of its modes, of which a command says `table`, and whether p is safe.
pub record IsGhostExplanationOf (p : GhostProtocol) (names : List (List ℕ)) (safe : Bool) (text : List ℕ) : Type 0 where
  pub explanation : GhostExplanation
  pub explained : ghosts.IsGhostExplained p explanation
  -- the text begins with the verdict, has each cause with its title, and says how to run a schedule
  pub is_text : IsGhostText names (codes "table") explanation text
  pub verdict : ghosts.is_safe explanation ≡ safe
  pub is_so : IsTrue safe ↔ IsSafeGhost p

-- The line reads as the script of p's schedule of this number, which goes wrong under p.
pub record IsScriptOfSchedule (p : GhostProtocol) (number : ℕ) (line : List ℕ) : Type 0 where
  pub explanation : GhostExplanation
  pub schedule : GhostSchedule
  pub explained : ghosts.IsGhostExplained p explanation
  pub numbered : ghosts.schedule_at number explanation ≡ Some schedule
  pub wrong : ghosts.IsWrong p schedule
  pub is_line : IsGhostLineOf schedule.script line

-- p has no schedule of this number.
pub record HasNoSchedule (p : GhostProtocol) (number : ℕ) : Type 0 where
  pub explanation : GhostExplanation
  pub explained : ghosts.IsGhostExplained p explanation
  pub none : ghosts.schedule_at number explanation ≡ None

-- The script of p's schedule of this number, exactly where there is one.
abbrev pub IsScheduleAt : GhostProtocol → ℕ → Option (List ℕ) → Type 0
IsScheduleAt p number (Some line) = IsScriptOfSchedule p number line
IsScheduleAt p number None = HasNoSchedule p number

-- Of either kind --

-- A table is safe or not, and the text explains it.
abbrev pub IsExplanationFor : Named → Bool → List ℕ → Type 0
IsExplanationFor (Table t) safe text = IsExplanationOf (table_of t) (names_of t) safe text
IsExplanationFor (Ghosts t) safe text = IsGhostExplanationOf (ghost.ghosts_of t) (ghost.names_of t) safe text

-- The script of a table's cause of this number, exactly where there is one.
abbrev pub IsScriptFor : Named → ℕ → Option (List ℕ) → Type 0
IsScriptFor (Table t) number found = IsScriptAt (table_of t) number found
IsScriptFor (Ghosts t) number found = IsScheduleAt (ghost.ghosts_of t) number found

-- The same of the table that bytes are.
abbrev pub IsExplanation : List ℕ → Bool → List ℕ → Type 0
IsExplanation bytes safe text = (t : Named) × (IsTable bytes t × IsExplanationFor t safe text)

abbrev pub IsCauseScript : List ℕ → ℕ → Option (List ℕ) → Type 0
IsCauseScript bytes number found = (t : Named) × (IsTable bytes t × IsScriptFor t number found)
