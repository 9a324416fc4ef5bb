-- What the program writes of the task that words ask for, under the table and of the scripts that they name: of a check, a run or verdicts, and of a run by several threads. What files may give is a relation of words to bytes, or to none.
use Rattle.std.specs.Prelude.{◌≡◌, ℕ, Bool, true, false, List, Option, ◌⊎◌}
use Rattle.std.specs.Io.KnownBytes.{Appends}
use Rattle.kr_model.specs.Protocol.{Protocol, IsLawful}
use Rattle.kr_model.specs.Covers.{IsCovered}
use Rattle.kr_script.specs.Script.{Script}
use Rattle.kr_script.specs.GhostScript.{GhostScript}
use Rattle.kr_cli.specs.declared.endings.Ending.{Ending}
use Rattle.kr_cli.specs.declared.endings.Ending.TheVariants.{NotUnderstood, Memory}
use Rattle.kr_cli.specs.declared.tables.AnyTable.{AnyTable}
use Rattle.kr_cli.specs.Named.{NamesTable, NamesScript, TellsNoScript}
use Rattle.kr_cli.specs.Tables.{table_of, names_of}
use Rattle.kr_ghost.specs.Protocol.{GhostProtocol, IsLawfulGhost}
use Rattle.kr_ghost.specs.Covers.{IsCoveredGhost}
use Rattle.kr_cli.specs.declared.ghost_tables.AnyGhostTable.{AnyGhostTable}
use Rattle.kr_cli.specs.NamedTables.{NamesGhosts, TellsNone}
use Rattle.kr_cli.specs.GhostTables as ghost
use Rattle.kr_cli.specs.GhostScripts.{NamesGhostScript, TellsNoGhostScript}
use Rattle.kr_cli_tasks.specs.Checks.{check_line, ghost_check_line}
use Rattle.kr_cli_tasks.specs.Endings.{UnreportedThreads}
use Rattle.kr_cli_tasks.specs.Words.{AreWords}
use Rattle.kr_cli_tasks.specs.declared.asked.Form.{Form}
use Rattle.kr_cli_tasks.specs.declared.asked.Form.TheVariants.{Plain, Threads}
use Rattle.kr_cli_tasks.specs.Tasks.{DoesTask, EndsTask}
use Rattle.kr_cli_tasks.specs.Threads.{threads_line, ghost_threads_line}
use Rattle.kr_report.specs.declared.threaded.Threaded.{Threaded}
use Rattle.kr_threads.specs.Threaded.{IsThreaded}
use Rattle.kr_ghost_threads.specs.declared.made.GhostThreaded.{GhostThreaded}
use Rattle.kr_ghost_threads.specs.Threaded.{IsGhostThreaded}

-- Under a covered table the whole report was written of a run by several threads of the script that a word names, and the answer is that it is serializable; under another the report of the check, and the answer is that it is rejected.
abbrev pub ThreadsReported : (List ℕ → Option (List ℕ) → Type 0) → Protocol → List (List ℕ) → List ℕ → Option (List ℕ) → Option (List ℕ) → Bool → Type 0
ThreadsReported may_give p names word old new well =
    ((well ≡ true) × (IsCovered p × ((s : Script) × (NamesScript may_give word s × ((d : Threaded) × (IsThreaded p s.opening s.steps d × Appends old new (threads_line d)))))))
    ⊎ ((well ≡ false) × ((IsCovered p → ⊥) × Appends old new (check_line p names)))

-- Under a covered table with ghosts the whole report was written of a run by several threads of the script that a word names, which may have purges, and the answer is that it is serializable; under another the report of the check, and the answer is that it is rejected.
abbrev pub GhostThreadsReported : (List ℕ → Option (List ℕ) → Type 0) → GhostProtocol → List (List ℕ) → List ℕ → Option (List ℕ) → Option (List ℕ) → Bool → Type 0
GhostThreadsReported may_give p names word old new well =
    ((well ≡ true) × (IsCoveredGhost p × ((s : GhostScript) × (NamesGhostScript may_give word s × ((d : GhostThreaded) × (IsGhostThreaded p s.opening s.moves d × Appends old new (ghost_threads_line p s.opening d)))))))
    ⊎ ((well ≡ false) × ((IsCoveredGhost p → ⊥) × Appends old new (ghost_check_line p names)))

-- One of these reports was written under the lawful table that a word names, without ghosts or with them.
abbrev pub DoesThreads : (List ℕ → Option (List ℕ) → Type 0) → List ℕ → List ℕ → Option (List ℕ) → Option (List ℕ) → Bool → Type 0
DoesThreads may_give table script old new well =
    ((t : AnyTable) × (NamesTable may_give table t × (IsLawful (table_of t) × ThreadsReported may_give (table_of t) (names_of t) script old new well)))
    ⊎ ((t : AnyGhostTable) × (NamesGhosts may_give table t × (IsLawfulGhost (ghost.ghosts_of t) × GhostThreadsReported may_give (ghost.ghosts_of t) (ghost.names_of t) script old new well)))

-- The whole report of what a form says was written under the table that a word names.
abbrev pub Does : (List ℕ → Option (List ℕ) → Type 0) → List ℕ → Form → Option (List ℕ) → Option (List ℕ) → Bool → Type 0
Does may_give table (Plain task) = DoesTask may_give table task
Does may_give table (Threads word workers) = DoesThreads may_give table word.now

-- The whole report of what these words ask for was written.
abbrev pub WritesReport : (List ℕ → Option (List ℕ) → Type 0) → List (List ℕ) → Option (List ℕ) → Option (List ℕ) → Bool → Type 0
WritesReport may_give words old new well = (table : List ℕ) × ((form : Form) × (AreWords words table form × Does may_give table form old new well))

-- The line tells why the word of a table names none; or, where it names one, why the word of a script names none.
abbrev pub TellsThreads : (List ℕ → Option (List ℕ) → Type 0) → List ℕ → List ℕ → List ℕ → Type 0
TellsThreads may_give table script line =
    TellsNone may_give table line
    ⊎ (((t : AnyGhostTable) × (NamesGhosts may_give table t × TellsNoGhostScript may_give script line))
    ⊎ ((t : AnyTable) × (NamesTable may_give table t × TellsNoScript may_give script line)))

-- What a form says ends under the table that a word names without its report, or with a prefix of it; a run by several threads for memory, a place or output, or with a line that tells of its table or its script.
abbrev pub EndsAny : (List ℕ → Option (List ℕ) → Type 0) → List ℕ → Form → Ending → Type 0
EndsAny may_give table (Plain task) = EndsTask may_give table task
EndsAny may_give table (Threads word workers) = UnreportedThreads (TellsThreads may_give table word.now)

-- Why the program ends without the report that these words ask for, or with a prefix of it: the words aren't understood, or memory ran out, or what they ask for ends so.
abbrev pub Ends : (List ℕ → Option (List ℕ) → Type 0) → List (List ℕ) → Ending → Type 0
Ends may_give words e =
    (e ≡ NotUnderstood) ⊎ ((e ≡ Memory) ⊎ ((table : List ℕ) × ((form : Form) × (AreWords words table form × EndsAny may_give table form e))))
