-- What is known of a report that was written.
use Rattle.std.specs.Prelude.{ℕ, List, Bool, Option, Result, Ok, Err, IfOk}
use Rattle.std.proofs.Common.{inl, inr}
use Rattle.kr_cli.specs.declared.endings.Ending.{Ending}
use Rattle.kr_cli.specs.declared.tables.AnyTable.{AnyTable}
use Rattle.kr_cli.specs.Lawful.{lawful_of}
use Rattle.kr_cli.specs.Named.{NamesTable}
use Rattle.kr_cli.specs.Tables.{table_of, names_of}
use Rattle.kr_cli.specs.declared.ghost_tables.AnyGhostTable.{AnyGhostTable}
use Rattle.kr_cli.specs.GhostLawful.{lawful_ghosts_of}
use Rattle.kr_cli.specs.NamedTables.{NamesGhosts}
use Rattle.kr_cli.specs.GhostTables as ghost
use Rattle.kr_cli_tasks.specs.Program.{ThreadsReported, GhostThreadsReported, DoesThreads, Does, WritesReport}
use Rattle.kr_cli_tasks.specs.Words.{AreWords}
use Rattle.kr_cli_tasks.specs.declared.asked.Form.{Form}

-- it is under the table that a word names, which is lawful
pub done : (may_give : List ℕ → Option (List ℕ) → Type 0) (r : Result Bool Ending) (table script : List ℕ) (t : AnyTable) (old new : Option (List ℕ)) → NamesTable may_give table t → IfOk r (ThreadsReported may_give (table_of t) (names_of t) script old new) → IfOk r (DoesThreads may_give table script old new)
done may_give (Ok well) table script t old new names reports = inl (t, (names, (lawful_of t, reports)))
done may_give (Err e) table script t old new names reports = tt

-- or under the table with ghosts that a word names, which is lawful too
pub done_with_ghosts : (may_give : List ℕ → Option (List ℕ) → Type 0) (r : Result Bool Ending) (table script : List ℕ) (t : AnyGhostTable) (old new : Option (List ℕ)) → NamesGhosts may_give table t → IfOk r (GhostThreadsReported may_give (ghost.ghosts_of t) (ghost.names_of t) script old new) → IfOk r (DoesThreads may_give table script old new)
done_with_ghosts may_give (Ok well) table script t old new names reports = inr (t, (names, (lawful_ghosts_of t, reports)))
done_with_ghosts may_give (Err e) table script t old new names reports = tt

-- it is that of the words that have this form
pub answered : (may_give : List ℕ → Option (List ℕ) → Type 0) (words : List (List ℕ)) (r : Result Bool Ending) (table : List ℕ) (form : Form) (old new : Option (List ℕ)) → AreWords words table form → IfOk r (Does may_give table form old new) → IfOk r (WritesReport may_give words old new)
answered may_give words (Ok well) table form old new ask does = (table, (form, (ask, does)))
answered may_give words (Err e) table form old new ask does = tt
