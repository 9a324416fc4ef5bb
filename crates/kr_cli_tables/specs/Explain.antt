-- What the program writes of a table, what it answers, and why it ends without that.
use Rattle.std.specs.Prelude.{◌≡◌, ◌⊎◌, ◌↔◌, ℕ, Bool, false, List, [], ◌∷◌, ◌++◌, Option, Some, None, IsTrue, codes, string_bytes}
use Rattle.std.specs.Fmt.{decimal}
use Rattle.std.specs.Io.KnownBytes.{Appends}
use Rattle.kr_model.specs.Protocol.{Protocol, IsLawful}
use Rattle.kr_model.specs.Safe.{IsSafe}
use Rattle.kr_theorem.specs.Wrong.{GoesWrong}
use Rattle.kr_explain_core.specs.Explained.{IsExplained, is_safe, run_at}
use Rattle.kr_explain_core.specs.Told.{IsText}
use Rattle.kr_explain_core.specs.Lines.{IsLineOf}
use Rattle.kr_explain_core.specs.declared.explanation.Explanation.{Explanation}
use Rattle.kr_explain_core.specs.declared.run.Run.{Run}
use Rattle.kr_ghost.specs.Protocol.{GhostProtocol, IsLawfulGhost}
use Rattle.kr_ghost.specs.Safe.{IsSafeGhost}
use Rattle.kr_ghost_explain.specs.Explained as ghosts
use Rattle.kr_ghost_explain.specs.Lines.{IsGhostLineOf}
use Rattle.kr_ghost_explain.specs.declared.explanation.GhostExplanation.{GhostExplanation}
use Rattle.kr_ghost_explain.specs.declared.schedule.GhostSchedule.{GhostSchedule}
use Rattle.kr_ghost_explain_text.specs.Told.{IsGhostText}
use Rattle.kr_cli.specs.declared.endings.Ending.{Ending}
use Rattle.kr_cli.specs.declared.endings.Ending.TheVariants.{NotUnderstood, Memory, Place, Output, Told}
use Rattle.kr_cli.specs.Lines.{told_line}
use Rattle.kr_cli.specs.Tables.{names_of, table_of}
use Rattle.kr_cli.specs.NamedTables.{Names, TellsNone}
use Rattle.kr_cli.specs.GhostTables as ghost
use Rattle.kr_cli.specs.declared.named.Named.{Named}
use Rattle.kr_cli.specs.declared.named.Named.TheVariants.{Table, Ghosts}
use Rattle.kr_cli_tables.specs.ExplainWords.{words_of, AskNothingOfTables, IsAsked}
use Rattle.kr_cli_tables.specs.declared.explanations.words.Wanted.{Wanted}
use Rattle.kr_cli_tables.specs.declared.explanations.words.Wanted.TheVariants as wanted

-- A whole text of an explanation of a table that a word names, with these names of its modes, was written, and the answer is whether the table is safe.
pub record Explains (p : Protocol) (names : List (List ℕ)) (table : List ℕ) (old new : Option (List ℕ)) (safe : Bool) : Type 0 where
  pub explanation : Explanation
  pub text : List ℕ
  pub explained : IsExplained p explanation
  -- the text begins with the verdict, has a block for each cause, with its title and its fixes, and says how to run a schedule
  pub is_text : IsText p names table explanation text
  pub verdict : is_safe explanation ≡ safe
  pub is_so : IsTrue safe ↔ IsSafe p
  pub written : Appends old new text

-- A line was written that reads as the script of the run of a table's cause of this number, which goes wrong under the table.
pub record WritesScript (p : Protocol) (number : ℕ) (old new : Option (List ℕ)) : Type 0 where
  pub explanation : Explanation
  pub run : Run
  pub line : List ℕ
  pub explained : IsExplained p explanation
  pub numbered : run_at number explanation ≡ Some run
  pub wrong : GoesWrong p run.script.opening.items run.script.events.items
  pub is_line : IsLineOf run.script.opening.items run.script.events.items line
  pub written : Appends old new (line ++ 10 ∷ [])

-- What is wanted of a table was written, and the answer is whether the table is safe; one of which there is a script isn't.
abbrev pub Reports : Protocol → List (List ℕ) → List ℕ → Wanted → Option (List ℕ) → Option (List ℕ) → Bool → Type 0
Reports p names table wanted.Explanation old new safe = Explains p names table old new safe
Reports p names table (wanted.Script number) old new safe = (safe ≡ false) × WritesScript p number old new

-- A table's cause of this number has no run, or there is no such cause; and the line tells that of the word that names the table.
pub record TellsNoRun (p : Protocol) (table : List ℕ) (number : ℕ) (line : List ℕ) : Type 0 where
  pub explanation : Explanation
  pub explained : IsExplained p explanation
  pub none : run_at number explanation ≡ None
  pub told : line ≡ told_line table (codes "no script " ++ decimal number)

-- The line tells why there isn't what is wanted of a table: only a script may be missing.
abbrev pub TellsMissing : Protocol → List ℕ → Wanted → List ℕ → Type 0
TellsMissing p table wanted.Explanation line = ⊥
TellsMissing p table (wanted.Script number) line = TellsNoRun p table number line

-- Tables with ghosts --

-- A whole text of an explanation of a table with ghosts that a word names, with these names of its modes, was written, and the answer is whether the table is safe.
pub record ExplainsGhosts (p : GhostProtocol) (names : List (List ℕ)) (table : List ℕ) (old new : Option (List ℕ)) (safe : Bool) : Type 0 where
  pub explanation : GhostExplanation
  pub text : List ℕ
  pub explained : ghosts.IsGhostExplained p explanation
  -- the text begins with the verdict, has each cause with its title, and says how to run a schedule
  pub is_text : IsGhostText names table explanation text
  pub verdict : ghosts.is_safe explanation ≡ safe
  pub is_so : IsTrue safe ↔ IsSafeGhost p
  pub written : Appends old new text

-- A line was written that reads as the script of a table's schedule of this number, which goes wrong under the table.
pub record WritesGhostScript (p : GhostProtocol) (number : ℕ) (old new : Option (List ℕ)) : Type 0 where
  pub explanation : GhostExplanation
  pub schedule : GhostSchedule
  pub explained : ghosts.IsGhostExplained p explanation
  pub numbered : ghosts.schedule_at number explanation ≡ Some schedule
  pub wrong : ghosts.IsWrong p schedule
  pub is_line : IsGhostLineOf schedule.script (string_bytes schedule.line)
  pub written : Appends old new (string_bytes schedule.line ++ 10 ∷ [])

-- What is wanted of a table with ghosts was written, and the answer is whether the table is safe; one of which there is a script isn't.
abbrev pub ReportsGhosts : GhostProtocol → List (List ℕ) → List ℕ → Wanted → Option (List ℕ) → Option (List ℕ) → Bool → Type 0
ReportsGhosts p names table wanted.Explanation old new safe = ExplainsGhosts p names table old new safe
ReportsGhosts p names table (wanted.Script number) old new safe = (safe ≡ false) × WritesGhostScript p number old new

-- A table with ghosts has no schedule of this number; and the line tells that of the word that names the table.
pub record TellsNoSchedule (p : GhostProtocol) (table : List ℕ) (number : ℕ) (line : List ℕ) : Type 0 where
  pub explanation : GhostExplanation
  pub explained : ghosts.IsGhostExplained p explanation
  pub none : ghosts.schedule_at number explanation ≡ None
  pub told : line ≡ told_line table (codes "no script " ++ decimal number)

-- The line tells why there isn't what is wanted of a table with ghosts: only a script may be missing.
abbrev pub TellsGhostMissing : GhostProtocol → List ℕ → Wanted → List ℕ → Type 0
TellsGhostMissing p table wanted.Explanation line = ⊥
TellsGhostMissing p table (wanted.Script number) line = TellsNoSchedule p table number line

-- Tables of both kinds --

-- A table that a word names is lawful.
abbrev pub IsLawfulTable : Named → Type 0
IsLawfulTable (Table t) = IsLawful (table_of t)
IsLawfulTable (Ghosts t) = IsLawfulGhost (ghost.ghosts_of t)

-- What is wanted of it was written, by the word that names it, and the answer is whether it is safe.
abbrev pub ReportsTable : Named → List ℕ → Wanted → Option (List ℕ) → Option (List ℕ) → Bool → Type 0
ReportsTable (Table t) = Reports (table_of t) (names_of t)
ReportsTable (Ghosts t) = ReportsGhosts (ghost.ghosts_of t) (ghost.names_of t)

-- The line tells why there isn't what is wanted of it.
abbrev pub TellsOfTable : Named → List ℕ → Wanted → List ℕ → Type 0
TellsOfTable (Table t) = TellsMissing (table_of t)
TellsOfTable (Ghosts t) = TellsGhostMissing (ghost.ghosts_of t)

-- Why the program ends without what is wanted of a table, or with a prefix of it: for memory, for output, or with a line, of which this holds.
abbrev pub EndsReport : (List ℕ → Type 0) → Ending → Type 0
EndsReport Tells NotUnderstood = ⊥
EndsReport Tells Memory = Unit {0}
EndsReport Tells Place = ⊥
EndsReport Tells Output = Unit {0}
EndsReport Tells (Told line) = Tells (string_bytes line)

-- What these words ask for was written, of the lawful table that the first of them names, with ghosts or without.
pub record Answers (may_give : List ℕ → Option (List ℕ) → Type 0) (words : List (List ℕ)) (old new : Option (List ℕ)) (safe : Bool) : Type 0 where
  pub table : List ℕ
  pub wanted : Wanted
  pub named : Named
  pub words_are : words ≡ words_of table wanted
  pub asked : IsAsked table wanted
  pub names : Names may_give table named
  pub lawful : IsLawfulTable named
  pub reports : ReportsTable named table wanted old new safe

-- The line tells why the word of a table names none; or what is missing of the table that it names.
abbrev pub TellsWord : (List ℕ → Option (List ℕ) → Type 0) → List ℕ → Wanted → List ℕ → Type 0
TellsWord may_give table wanted line =
    TellsNone may_give table line ⊎ ((t : Named) × (Names may_give table t × TellsOfTable t table wanted line))

-- Why the program ends without what these words ask for, or with a prefix of it.
abbrev pub Ends : (List ℕ → Option (List ℕ) → Type 0) → List (List ℕ) → Ending → Type 0
Ends may_give words NotUnderstood = AskNothingOfTables words
Ends may_give words Memory = Unit {0}
Ends may_give words Place = ⊥
Ends may_give words Output = Unit {0}
Ends may_give words (Told line) = (table : List ℕ) × ((wanted : Wanted)
    × ((words ≡ words_of table wanted) × (IsAsked table wanted × TellsWord may_give table wanted (string_bytes line))))
