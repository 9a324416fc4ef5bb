-- What the program writes of a table or of a script's run, what it answers, and why it ends without a page.
use Rattle.std.specs.Prelude.{◌≡◌, ◌⊎◌, ℕ, Bool, List, [], ◌∷◌, Option, Some, ◌↔◌, IsTrue, string_bytes}
use Rattle.std.specs.Io.KnownBytes.{Appends}
use Rattle.kr_model.specs.Protocol.{Protocol, IsLawful}
use Rattle.kr_model.specs.State.{start}
use Rattle.kr_model.specs.Run.{run, programs}
use Rattle.kr_model.specs.Safe.{IsSafe}
use Rattle.kr_model.specs.Serial.{AreSerial}
use Rattle.kr_script.specs.Script.{Script}
use Rattle.kr_cli.specs.declared.endings.Ending.{Ending}
use Rattle.kr_cli.specs.declared.endings.Ending.TheVariants.{NotUnderstood, Memory, Place, Output, Told}
use Rattle.kr_cli.specs.declared.tables.AnyTable.{AnyTable}
use Rattle.kr_cli.specs.Files.{MayBeScript}
use Rattle.kr_cli.specs.Named.{NamesScript, TellsNoScript}
use Rattle.kr_cli.specs.Tables.{names_of, table_of}
use Rattle.kr_cli.specs.declared.ghost_tables.AnyGhostTable.{AnyGhostTable}
use Rattle.kr_cli.specs.declared.named.Named.{Named}
use Rattle.kr_cli.specs.declared.named.Named.TheVariants.{Table, Ghosts}
use Rattle.kr_cli.specs.NamedTables.{Names, TellsNone}
use Rattle.kr_cli.specs.GhostScripts.{IsSerialGhosts, NamesGhostScript, TellsNoGhostScript}
use Rattle.kr_cli.specs.GhostTables.{ghosts_of}
use Rattle.kr_cli.specs.GhostTables as ghost
use Rattle.kr_ghost_view_table.specs.Page.{IsGhostTablePage}
use Rattle.kr_ghost.specs.Protocol.{GhostProtocol, IsLawfulGhost}
use Rattle.kr_script.specs.GhostScript.{GhostScript}
use Rattle.kr_ghost_view.specs.Moves.{drawn_moves}
use Rattle.kr_cli_diagnosis.specs.Repeated.{HasNoMemberTwice}
use Rattle.kr_view_scenes.specs.Scenes.{NumberedStep, drawn_steps}
use Rattle.kr_view_run.specs.Page.{IsPage}
use Rattle.kr_view_table.specs.Page.{IsTablePage}
use Rattle.kr_cli_tables.specs.ViewWords.{AskNoPage, IsAsked, words_of}
use Rattle.kr_cli_tables.specs.declared.pages.words.Asked.{Asked}
use Rattle.kr_cli_tables.specs.declared.pages.words.Asked.TheVariants as asked

-- The transactions that commit in a script's run under a protocol are serializable.
abbrev pub IsSerialScript : Protocol → Script → Type 0
IsSerialScript p s = AreSerial s.opening (programs (run p (start s.opening) s.steps).history)

-- The steps that a page draws of a script's run under a protocol, each with its number, its event and its reply.
abbrev pub drawn_of_script : Protocol → Script → List NumberedStep
drawn_of_script p s = drawn_steps p s.opening s.steps

-- The page of a script's run under a table was written, under a name of the table, with the verdict on that run and a band for each of its steps that are drawn.
abbrev pub ShowsRun : AnyTable → Script → List ℕ → Option (List ℕ) → Option (List ℕ) → Bool → Type 0
ShowsRun t s name old new serial =
    (page : List ℕ) × (IsPage name (drawn_of_script (table_of t) s) serial page × (Appends old new page × (IsTrue serial ↔ IsSerialScript (table_of t) s)))

-- The page was written of the run of the script that one word names, under this lawful table, which the other names.
abbrev pub ShowsScript : (List ℕ → Option (List ℕ) → Type 0) → AnyTable → List ℕ → List ℕ → Option (List ℕ) → Option (List ℕ) → Bool → Type 0
ShowsScript may_give t table script old new serial =
    IsLawful (table_of t) × ((s : Script) × (NamesScript may_give script s × ShowsRun t s table old new serial))

-- The moves that a page draws of a script's run under a protocol with ghosts.
abbrev pub drawn_of_ghosts : GhostProtocol → GhostScript → List NumberedStep
drawn_of_ghosts p s = drawn_moves p s.opening s.moves

-- The page of a run under a table with ghosts was written, of a script that may have purges.
abbrev pub ShowsGhostRun : AnyGhostTable → GhostScript → List ℕ → Option (List ℕ) → Option (List ℕ) → Bool → Type 0
ShowsGhostRun t s name old new serial =
    (page : List ℕ) × (IsPage name (drawn_of_ghosts (ghosts_of t) s) serial page × (Appends old new page × (IsTrue serial ↔ IsSerialGhosts (ghosts_of t) s)))

abbrev pub ShowsGhostScript : (List ℕ → Option (List ℕ) → Type 0) → AnyGhostTable → List ℕ → List ℕ → Option (List ℕ) → Option (List ℕ) → Bool → Type 0
ShowsGhostScript may_give t table script old new serial =
    IsLawfulGhost (ghosts_of t) × ((s : GhostScript) × (NamesGhostScript may_give script s × ShowsGhostRun t s table old new serial))

-- The page was written of the run of the script that one word names, under this lawful table, with ghosts or without, which the other names.
abbrev pub ShowsUnder : (List ℕ → Option (List ℕ) → Type 0) → Named → List ℕ → List ℕ → Option (List ℕ) → Option (List ℕ) → Bool → Type 0
ShowsUnder may_give (Table t) = ShowsScript may_give t
ShowsUnder may_give (Ghosts t) = ShowsGhostScript may_give t

-- The same, under a table that the other names.
abbrev pub Shows : (List ℕ → Option (List ℕ) → Type 0) → List ℕ → List ℕ → Option (List ℕ) → Option (List ℕ) → Bool → Type 0
Shows may_give table script old new serial = (t : Named) × (Names may_give table t × ShowsUnder may_give t table script old new serial)

-- The page was written of this lawful table, which a word names, and the answer is whether the table is safe.
pub record ShowsTableOf (t : AnyTable) (table : List ℕ) (old new : Option (List ℕ)) (safe : Bool) : Type 0 where
  pub page : List ℕ
  pub lawful : IsLawful (table_of t)
  -- the page says that the table is accepted, safe or rejected exactly where it is
  pub is_page : IsTablePage (table_of t) (names_of t) table page
  pub is_so : IsTrue safe ↔ IsSafe (table_of t)
  pub written : Appends old new page

-- The same of a table with ghosts.
pub record ShowsGhostTable (t : AnyGhostTable) (table : List ℕ) (old new : Option (List ℕ)) (safe : Bool) : Type 0 where
  pub page : List ℕ
  pub lawful : IsLawfulGhost (ghosts_of t)
  -- the page says that the table is accepted, safe or rejected, and the table is safe exactly where the answer says so
  pub is_page : IsGhostTablePage (ghosts_of t) (ghost.names_of t) table page safe
  pub written : Appends old new page

-- The same of a table with ghosts or without.
abbrev pub ShowsNamed : Named → List ℕ → Option (List ℕ) → Option (List ℕ) → Bool → Type 0
ShowsNamed (Table t) = ShowsTableOf t
ShowsNamed (Ghosts t) = ShowsGhostTable t

-- The same of the table that a word names.
abbrev pub ShowsTable : (List ℕ → Option (List ℕ) → Type 0) → List ℕ → Option (List ℕ) → Option (List ℕ) → Bool → Type 0
ShowsTable may_give table old new safe = (t : Named) × (Names may_give table t × ShowsNamed t table old new safe)

-- The page of what is asked was written.
abbrev pub ShowsPage : (List ℕ → Option (List ℕ) → Type 0) → Asked → Option (List ℕ) → Option (List ℕ) → Bool → Type 0
ShowsPage may_give (asked.Table table) old new well = ShowsTable may_give table.now old new well
ShowsPage may_give (asked.Run table script) old new well = Shows may_give table.now script.now old new well

-- The page that the words ask for was written.
pub record ShowsAsked (may_give : List ℕ → Option (List ℕ) → Type 0) (words : List (List ℕ)) (old new : Option (List ℕ)) (well : Bool) : Type 0 where
  pub asked : Asked
  pub words_are : words ≡ words_of asked
  pub is_asked : IsAsked asked
  pub shows : ShowsPage may_give asked old new well

-- No script that the word may name has an object with two members of one name.
abbrev pub NamesNoMemberTwice : (List ℕ → Option (List ℕ) → Type 0) → List ℕ → Type 0
NamesNoMemberTwice may_give script = (bytes : List ℕ) → MayBeScript may_give script (Some bytes) → HasNoMemberTwice bytes

-- The same of the word of a script, if the words have one.
abbrev pub NameNoMemberTwice : (List ℕ → Option (List ℕ) → Type 0) → List (List ℕ) → Type 0
NameNoMemberTwice may_give words = (table script : List ℕ) → words ≡ table ∷ script ∷ [] → NamesNoMemberTwice may_give script

-- The line tells why a word names no script for this table: under one with ghosts scripts may have purges.
abbrev pub TellsNoScriptFor : (List ℕ → Option (List ℕ) → Type 0) → Named → List ℕ → List ℕ → Type 0
TellsNoScriptFor may_give (Table t) = TellsNoScript may_give
TellsNoScriptFor may_give (Ghosts t) = TellsNoGhostScript may_give

-- The line tells why the word of a table names none; or why the word of a script does, where that of the table names one.
abbrev pub TellsWord : (List ℕ → Option (List ℕ) → Type 0) → List ℕ → List ℕ → List ℕ → Type 0
TellsWord may_give table script line =
    TellsNone may_give table line ⊎ ((t : Named) × (Names may_give table t × TellsNoScriptFor may_give t script line))

-- Why there is no page, or a prefix of it: out of memory, or printing failed; or a line tells why.
abbrev pub EndsSo : (List ℕ → Type 0) → Ending → Type 0
EndsSo Tells NotUnderstood = ⊥
EndsSo Tells Memory = Unit {0}
EndsSo Tells Place = ⊥
EndsSo Tells Output = Unit {0}
EndsSo Tells (Told line) = Tells (string_bytes line)

-- The line tells why there is no page of what is asked.
abbrev pub TellsAsked : (List ℕ → Option (List ℕ) → Type 0) → Asked → List ℕ → Type 0
TellsAsked may_give (asked.Table table) line = TellsNone may_give table.now line
TellsAsked may_give (asked.Run table script) line = TellsWord may_give table.now script.now line

-- Why the program ends without a page, or with a prefix of it.
abbrev pub Ends : (List ℕ → Option (List ℕ) → Type 0) → List (List ℕ) → Ending → Type 0
Ends may_give words NotUnderstood = AskNoPage words
Ends may_give words Memory = Unit {0}
Ends may_give words Place = ⊥
Ends may_give words Output = Unit {0}
Ends may_give words (Told line) = (asked : Asked) × ((words ≡ words_of asked) × (IsAsked asked × TellsAsked may_give asked (string_bytes line)))
