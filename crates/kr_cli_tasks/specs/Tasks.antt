-- What is written of a check, of a run and of verdicts, under the table and of the scripts that words name, and why these tasks end without that. What files may give is a relation of words to bytes, or to none.
use Rattle.std.specs.Prelude.{ℕ, Bool, List, Option, ◌↔◌, ◌⊎◌, IsTrue, All, map}
use Rattle.std.specs.Io.KnownBytes.{Appends}
use Rattle.kr_model.specs.Protocol.{Protocol, IsLawful}
use Rattle.kr_model.specs.Covers.{IsCovered}
use Rattle.kr_script.specs.Script.{Script}
use Rattle.kr_script.specs.GhostScript.{GhostScript}
use Rattle.kr_cli.specs.declared.endings.Ending.{Ending}
use Rattle.kr_cli.specs.declared.tables.AnyTable.{AnyTable}
use Rattle.kr_cli.specs.Endings.{MemoryOrTold}
use Rattle.kr_cli.specs.Files.{MayBeScript}
use Rattle.kr_cli.specs.Named.{NamesTable, NamesScript, TellsNoScript}
use Rattle.kr_cli.specs.Tables.{table_of, names_of}
use Rattle.kr_ghost.specs.Protocol.{GhostProtocol, IsLawfulGhost}
use Rattle.kr_ghost.specs.Covers.{IsCoveredGhost}
use Rattle.kr_cli.specs.declared.ghost_tables.AnyGhostTable.{AnyGhostTable}
use Rattle.kr_cli.specs.NamedTables.{NamesGhosts, TellsNone}
use Rattle.kr_cli.specs.GhostTables as ghost
use Rattle.kr_cli.specs.GhostScripts.{IsSerialGhosts, NamesGhostScript, NameGhostScripts, TellsNoGhostScript, TellsFirstGhost}
use Rattle.kr_cli_tasks.specs.GhostRuns.{ghost_report_line, ghost_judge_lines}
use Rattle.kr_batch.specs.Names.{AreNamed}
use Rattle.kr_cli_tasks.specs.Runs.{report_line, IsSerialScript}
use Rattle.kr_cli_tasks.specs.Endings.{Unreported}
use Rattle.kr_cli_tasks.specs.Checks.{check_line, ghost_check_line}
use Rattle.kr_cli_tasks.specs.Judges.{judge_lines, TellsFirst}
use Rattle.kr_cli_tasks.specs.declared.asked.Task.{Task}
use Rattle.kr_cli_tasks.specs.declared.asked.Task.TheVariants.{Check, Run, Judge}

-- The whole report of a task was written, of the scripts that its words name, and the answer is whether the table is accepted, or each run is serializable.
abbrev pub Reports : (List ℕ → Option (List ℕ) → Type 0) → Protocol → List (List ℕ) → Task → Option (List ℕ) → Option (List ℕ) → Bool → Type 0
Reports may_give p names Check old new well = Appends old new (check_line p names) × (IsTrue well ↔ IsCovered p)
Reports may_give p names (Run word) old new well =
    (s : Script) × (NamesScript may_give word.now s × (Appends old new (report_line p names s) × (IsTrue well ↔ IsSerialScript p s)))
Reports may_give p names (Judge words) old new well = (ss : List Script) × (AreNamed (MayBeScript may_give) (map (λ w. w.now) words.items) ss
    × (Appends old new (judge_lines p (map (λ w. w.now) words.items) ss) × (IsTrue well ↔ All (IsSerialScript p) ss)))

-- The same of a task under a table with ghosts, of the scripts that its words name, which may have purges.
abbrev pub ReportsGhosts : (List ℕ → Option (List ℕ) → Type 0) → GhostProtocol → List (List ℕ) → Task → Option (List ℕ) → Option (List ℕ) → Bool → Type 0
ReportsGhosts may_give p names Check old new well = Appends old new (ghost_check_line p names) × (IsTrue well ↔ IsCoveredGhost p)
ReportsGhosts may_give p names (Run word) old new well =
    (s : GhostScript) × (NamesGhostScript may_give word.now s × (Appends old new (ghost_report_line p names s) × (IsTrue well ↔ IsSerialGhosts p s)))
ReportsGhosts may_give p names (Judge words) old new well = (ss : List GhostScript) × (NameGhostScripts may_give (map (λ w. w.now) words.items) ss
    × (Appends old new (ghost_judge_lines p (map (λ w. w.now) words.items) ss) × (IsTrue well ↔ All (IsSerialGhosts p) ss)))

-- The whole report of a task was written under the lawful table that a word names, without ghosts or with them.
abbrev pub DoesTask : (List ℕ → Option (List ℕ) → Type 0) → List ℕ → Task → Option (List ℕ) → Option (List ℕ) → Bool → Type 0
DoesTask may_give table task old new well =
    ((t : AnyTable) × (NamesTable may_give table t × (IsLawful (table_of t) × Reports may_give (table_of t) (names_of t) task old new well)))
    ⊎ ((t : AnyGhostTable) × (NamesGhosts may_give table t × (IsLawfulGhost (ghost.ghosts_of t) × ReportsGhosts may_give (ghost.ghosts_of t) (ghost.names_of t) task old new well)))

-- A task under a table without ghosts ends without its report, or with a prefix of it: for memory or output, or a line tells why a word of it names no script, of several the first.
abbrev pub Undone : (List ℕ → Option (List ℕ) → Type 0) → Task → Ending → Type 0
Undone may_give Check = Unreported (λ line. ⊥)
Undone may_give (Run word) = Unreported (TellsNoScript may_give word.now)
Undone may_give (Judge words) = Unreported (TellsFirst may_give (map (λ w. w.now) words.items))

-- The same of a task under a table with ghosts.
abbrev pub UndoneGhosts : (List ℕ → Option (List ℕ) → Type 0) → Task → Ending → Type 0
UndoneGhosts may_give Check = Unreported (λ line. ⊥)
UndoneGhosts may_give (Run word) = Unreported (TellsNoGhostScript may_give word.now)
UndoneGhosts may_give (Judge words) = Unreported (TellsFirstGhost may_give (map (λ w. w.now) words.items))

-- A task ends so under the table that a word names; or memory ran out, or a line tells why that word names no table.
abbrev pub EndsTask : (List ℕ → Option (List ℕ) → Type 0) → List ℕ → Task → Ending → Type 0
EndsTask may_give table task e =
    MemoryOrTold e (TellsNone may_give table)
    ⊎ (((t : AnyGhostTable) × (NamesGhosts may_give table t × UndoneGhosts may_give task e))
    ⊎ ((t : AnyTable) × (NamesTable may_give table t × Undone may_give task e)))
