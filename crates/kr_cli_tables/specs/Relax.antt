-- What the program writes of a table, what it answers, and why it ends without that.
use Rattle.std.specs.Prelude.{◌≡◌, ◌⊎◌, ◌↔◌, ◌==◌, ◌++◌, ℕ, Bool, true, false, not, List, [], Option, Ok, IsTrue, codes, length, string_bytes}
use Rattle.std.specs.List.{Any}
use Rattle.std.specs.Io.KnownBytes.{Appends}
use Rattle.kr_kinds.specs.Kinds.{IndexProtocol, IsLawfulIndex, IsSafeIndex, table_of}
use Rattle.kr_table.specs.Answer.{table_data}
use Rattle.kr_table.specs.Reading.{reading}
use Rattle.kr_ghost_table.specs.Answer.{ghost_data}
use Rattle.kr_ghost_table.specs.Reading.{reading as ghost_reading}
use Rattle.kr_table_copy.specs.declared.copying.Copy.{Copy}
use Rattle.kr_table_copy.specs.declared.copying.Copy.TheVariants as copy
use Rattle.kr_relax_core.specs.Relaxations.{AreRelaxations, IsTight}
use Rattle.kr_relax_core.specs.Unused.{AreUnused}
use Rattle.kr_relax_core.specs.declared.relax.Relaxed.{Relaxed}
use Rattle.kr_relax_core.specs.declared.unused.Entry.{Entry}
use Rattle.kr_relax_text.specs.declared.reasons.Reason.{Reason}
use Rattle.kr_relax_text.specs.declared.scripts.Relaxation.{Relaxation}
use Rattle.kr_relax_text.specs.Reasons.{AreReasons, IsRelaxing, changes_of_entry, reasons_words}
use Rattle.kr_relax_text.specs.Scripts.{AreShown}
use Rattle.kr_relax_text.specs.Unused.{unused_words}
use Rattle.kr_relax_text.specs.Whole.{relaxed_text}
use Rattle.kr_cli.specs.declared.endings.Ending.{Ending}
use Rattle.kr_cli.specs.declared.endings.Ending.TheVariants.{NotUnderstood, Memory, Place, Output, Told}
use Rattle.kr_cli.specs.declared.named.Named.{Named}
use Rattle.kr_cli.specs.Lines.{told_line}
use Rattle.kr_cli.specs.NamedTables.{Names, TellsNone}
use Rattle.kr_cli.specs.Words.{IsPlain}
use Rattle.kr_cli_tables.specs.Suite.{index_of, mode_names}
use Rattle.kr_cli_tables.specs.Tightest.{IsTightest}
use Rattle.kr_cli_tables.specs.RelaxWords.{words_of, AskNothingOfTables}
use Rattle.kr_cli_tables.specs.declared.relaxations.words.Wanted.{Wanted}
use Rattle.kr_cli_tables.specs.declared.relaxations.words.Wanted.TheVariants as wanted

-- Of a table --

-- A text has exactly the relaxations of p, each with a script that shows it, if one is known, or it says that p is tight; and the entries that no schedule comes to.
pub record TellsRelaxations (p : IndexProtocol) (names : List (List ℕ)) (text : List ℕ) (tight : Bool) : Type 0 where
  pub found : List Relaxed
  pub list : List Relaxation
  pub unused : List Entry
  pub are_relaxations : AreRelaxations p found
  pub are_shown : AreShown p found list
  pub are_unused : AreUnused p unused
  pub is_text : text ≡ relaxed_text (table_of p) names list ++ unused_words (table_of p) names unused
  pub verdict : tight ≡ (length found == 0)
  pub is_tight : IsTrue tight → IsTight p

-- Whether no entry of p has this name.
abbrev pub has_no_entry : IndexProtocol → List (List ℕ) → List ℕ → Bool
has_no_entry p names entry = length (changes_of_entry p names entry) == 0

-- A text says what each change of the entry of a name does; it is told tight where none of them is a relaxation.
pub record TellsReasons (p : IndexProtocol) (names : List (List ℕ)) (entry text : List ℕ) (tight : Bool) : Type 0 where
  pub list : List Reason
  pub some : has_no_entry p names entry ≡ false
  pub are_reasons : AreReasons p (changes_of_entry p names entry) list
  pub is_text : text ≡ reasons_words (table_of p) names list
  pub verdict : IsTrue (not tight) ↔ Any IsRelaxing list

-- A text reads as a table.
abbrev pub ReadsAs : List ℕ → Copy → Type 0
ReadsAs text (copy.Gone t) = reading text ≡ Ok (table_data t)
ReadsAs text (copy.Leaving t) = ghost_reading text ≡ Ok (ghost_data t)

-- A text reads as a safe table that relaxations made of p, which is said to be tight exactly where it is.
pub record TellsTightest (p : IndexProtocol) (names : List (List ℕ)) (text : List ℕ) (tight : Bool) : Type 0 where
  pub table : Copy
  pub is_tightest : IsTightest p names table tight
  pub reads : ReadsAs text table

-- A text is what is wanted of p: its relaxations, the tightest table, or what the changes of an entry do.
abbrev pub IsMade : IndexProtocol → List (List ℕ) → Wanted → List ℕ → Bool → Type 0
IsMade p names wanted.Relaxations text tight = TellsRelaxations p names text tight
IsMade p names wanted.Tightest text tight = TellsTightest p names text tight
IsMade p names (wanted.Why entry) text tight = TellsReasons p names entry.now text tight

-- It can't be made: the tightest table isn't read as it is written, or no entry has the name.
abbrev pub IsUnmade : IndexProtocol → List (List ℕ) → Wanted → Type 0
IsUnmade p names wanted.Relaxations = ⊥
IsUnmade p names wanted.Tightest = Unit {0}
IsUnmade p names (wanted.Why entry) = has_no_entry p names entry.now ≡ true

-- What is wanted of a safe table was written whole, and the answer is whether that is tight.
pub record Writes (p : IndexProtocol) (names : List (List ℕ)) (wanted : Wanted) (old new : Option (List ℕ)) (tight : Bool) : Type 0 where
  pub safe : IsSafeIndex p
  pub text : List ℕ
  pub made : IsMade p names wanted text tight
  pub written : Appends old new text

-- What is told of a table that isn't safe.
abbrev pub unsafe_words : List ℕ → List ℕ
unsafe_words word = codes "not safe; see kr explain " ++ word

-- The line tells that p isn't safe.
abbrev pub TellsUnsafe : IndexProtocol → List ℕ → List ℕ → Type 0
TellsUnsafe p word line = (IsSafeIndex p → ⊥) × (line ≡ told_line word (unsafe_words word))

-- What is told where it can't be made.
abbrev pub unmade_words : Wanted → List ℕ
unmade_words wanted.Relaxations = []
unmade_words wanted.Tightest = codes "the tightest table cannot be written"
unmade_words (wanted.Why entry) = codes "no entry " ++ entry.now

-- The line tells that.
abbrev pub TellsUnmade : IndexProtocol → List (List ℕ) → List ℕ → Wanted → List ℕ → Type 0
TellsUnmade p names word w line = IsUnmade p names w × (line ≡ told_line word (unmade_words w))

-- Why the program ends without what is wanted of the table p of a word, or with a prefix of it: p isn't safe, it can't be made, memory, or output.
abbrev pub EndsWriting : IndexProtocol → List (List ℕ) → List ℕ → Wanted → Ending → Type 0
EndsWriting p names word w NotUnderstood = ⊥
EndsWriting p names word w Memory = Unit {0}
EndsWriting p names word w Place = ⊥
EndsWriting p names word w Output = Unit {0}
EndsWriting p names word w (Told line) = TellsUnsafe p word (string_bytes line) ⊎ TellsUnmade p names word w (string_bytes line)

-- Of words --

-- What these words ask for was written, of the lawful table that the first of them names.
pub record Answers (may_give : List ℕ → Option (List ℕ) → Type 0) (words : List (List ℕ)) (old new : Option (List ℕ)) (tight : Bool) : Type 0 where
  pub table : List ℕ
  pub wanted : Wanted
  pub named : Named
  pub words_are : words ≡ words_of table wanted
  pub asked : IsPlain table
  pub names : Names may_give table named
  pub lawful : IsLawfulIndex (index_of named)
  pub writes : Writes (index_of named) (mode_names named) wanted old new tight

-- The line tells why nothing is written of the table that a word names: it isn't safe, the tightest table isn't read as it is written, or no entry has the name.
abbrev pub TellsNothing : (List ℕ → Option (List ℕ) → Type 0) → List ℕ → Wanted → List ℕ → Type 0
TellsNothing may_give word w line =
    (t : Named) × (Names may_give word t × (TellsUnsafe (index_of t) word line ⊎ TellsUnmade (index_of t) (mode_names t) word w line))

-- Why the program ends without what these words ask for, or with a prefix of it.
abbrev pub Ends : (List ℕ → Option (List ℕ) → Type 0) → List (List ℕ) → Ending → Type 0
Ends may_give words NotUnderstood = AskNothingOfTables words
Ends may_give words Memory = Unit {0}
Ends may_give words Place = ⊥
Ends may_give words Output = Unit {0}
Ends may_give words (Told line) = (table : List ℕ) × ((w : Wanted) × ((words ≡ words_of table w)
    × (IsPlain table × (TellsNone may_give table (string_bytes line) ⊎ TellsNothing may_give table w (string_bytes line)))))
