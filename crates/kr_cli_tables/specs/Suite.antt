-- What the program writes of a table, what it answers, and why it ends without that.
use Rattle.std.specs.Prelude.{◌≡◌, ◌==◌, ℕ, Bool, List, Option, Some, None, length, string_bytes}
use Rattle.std.specs.Io.KnownBytes.{Appends}
use Rattle.kr_kinds.specs.Kinds.{IndexProtocol, Gone, Leaves, IsLawfulIndex}
use Rattle.kr_decide.specs.declared.survey.Survey.{Survey}
use Rattle.kr_decide.specs.Survey.{IsSurvey}
use Rattle.kr_suite_core.specs.declared.classes.Suite.{Suite}
use Rattle.kr_suite_core.specs.Suite.{IsSuite}
use Rattle.kr_suite_text.specs.Whole.{left_text, suite_text}
use Rattle.kr_cli.specs.declared.endings.Ending.{Ending}
use Rattle.kr_cli.specs.declared.endings.Ending.TheVariants.{NotUnderstood, Memory, Place, Output, Told}
use Rattle.kr_cli.specs.declared.named.Named.{Named}
use Rattle.kr_cli.specs.declared.named.Named.TheVariants.{Table, Ghosts}
use Rattle.kr_cli.specs.NamedTables.{Names, TellsNone}
use Rattle.kr_cli.specs.Tables.{names_of, table_of}
use Rattle.kr_cli.specs.GhostTables.{ghosts_of}
use Rattle.kr_cli.specs.GhostTables as ghost
use Rattle.kr_cli.specs.Words.{IsPlain}
use Rattle.kr_cli_tables.specs.SuiteWords.{words_of, AskNothingOfTables}
use Rattle.kr_cli_tables.specs.declared.suites.words.Wanted.{Wanted}
use Rattle.kr_cli_tables.specs.declared.suites.words.Wanted.TheVariants as wanted

-- The table that a word names, as one of either kind.
abbrev pub index_of : Named → IndexProtocol
index_of (Table t) = Gone (table_of t)
index_of (Ghosts t) = Leaves (ghosts_of t)

-- The names of its modes.
abbrev pub mode_names : Named → List (List ℕ)
mode_names (Table t) = names_of t
mode_names (Ghosts t) = ghost.names_of t

-- A right survey of p; where deletes leave ghosts there is none.
abbrev pub IsSurveyOf : IndexProtocol → Option Survey → Type 0
IsSurveyOf (Gone p) (Some survey) = IsSurvey p survey
IsSurveyOf (Gone p) None = ⊥
IsSurveyOf (Leaves p) (Some survey) = ⊥
IsSurveyOf (Leaves p) None = Unit {0}

-- A text is what a suite of p leaves, with why changes are alike: what a right survey of p says that schedules come to.
pub record TellsLeft (p : IndexProtocol) (names : List (List ℕ)) (suite : Suite) (text : List ℕ) : Type 0 where
  pub survey : Option Survey
  pub is_survey : IsSurveyOf p survey
  pub is_text : text ≡ left_text p names suite survey

-- A text is what is wanted of a suite of p: the suite itself, or what it leaves.
abbrev pub IsWanted : IndexProtocol → List (List ℕ) → Suite → Wanted → List ℕ → Type 0
IsWanted p names s wanted.Suite text = text ≡ suite_text p names s
IsWanted p names s wanted.Left text = TellsLeft p names s text

-- Whether a suite leaves no change.
abbrev pub is_complete : Suite → Bool
is_complete s = length s.left.items == 0

-- A text is what is wanted of the suite of a table with these names of its modes, which leaves no change, or leaves some.
pub record IsMade (p : IndexProtocol) (names : List (List ℕ)) (wanted : Wanted) (text : List ℕ) (complete : Bool) : Type 0 where
  pub suite : Suite
  -- each part tells the changes that it names apart, and each change is told apart, alike or left
  pub is_suite : IsSuite p suite
  pub is_text : IsWanted p names suite wanted text
  pub verdict : complete ≡ is_complete suite

-- What is wanted of the suite of a table was written whole, and the answer is whether the suite leaves no change.
pub record Writes (p : IndexProtocol) (names : List (List ℕ)) (wanted : Wanted) (old new : Option (List ℕ)) (complete : Bool) : Type 0 where
  pub text : List ℕ
  pub made : IsMade p names wanted text complete
  pub written : Appends old new text

-- Why the program ends without what is wanted of a table, or with a prefix of it: memory, or output.
abbrev pub EndsWriting : Ending → Type 0
EndsWriting NotUnderstood = ⊥
EndsWriting Memory = Unit {0}
EndsWriting Place = ⊥
EndsWriting Output = Unit {0}
EndsWriting (Told line) = ⊥

-- What these words ask for was written, of the lawful table that the first of them names.
pub record Answers (may_give : List ℕ → Option (List ℕ) → Type 0) (words : List (List ℕ)) (old new : Option (List ℕ)) (complete : Bool) : Type 0 where
  pub table : List ℕ
  pub wanted : Wanted
  pub named : Named
  pub words_are : words ≡ words_of table wanted
  pub asked : IsPlain table
  pub names : Names may_give table named
  pub lawful : IsLawfulIndex (index_of named)
  pub writes : Writes (index_of named) (mode_names named) wanted old new complete

-- Why the program ends without what these words ask for, or with a prefix of it.
abbrev pub Ends : (List ℕ → Option (List ℕ) → Type 0) → List (List ℕ) → Ending → Type 0
Ends may_give words NotUnderstood = AskNothingOfTables words
Ends may_give words Memory = Unit {0}
Ends may_give words Place = ⊥
Ends may_give words Output = Unit {0}
Ends may_give words (Told line) = (table : List ℕ) × ((wanted : Wanted)
    × ((words ≡ words_of table wanted) × (IsPlain table × TellsNone may_give table (string_bytes line))))
