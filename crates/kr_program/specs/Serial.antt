-- What it is for the runs under a table that a word names to be serializable in commit order.
use Rattle.std.specs.Prelude.{ℕ, List, Option, All}
use Rattle.kr_model.specs.Protocol.{IsLawful}
use Rattle.kr_model.specs.Covers.{IsCovered}
use Rattle.kr_model.specs.Serial.{RunsAreSerial}
use Rattle.kr_script.specs.Script.{Script}
use Rattle.kr_ghost.specs.Protocol.{IsLawfulGhost}
use Rattle.kr_ghost.specs.Covers.{IsCoveredGhost}
use Rattle.kr_ghost.specs.Run.{GhostRunsAreSerial}
use Rattle.kr_script.specs.GhostScript.{GhostScript}
use Rattle.kr_cli.specs.Named.{NamesScript}
use Rattle.kr_cli.specs.Tables.{table_of}
use Rattle.kr_cli.specs.NamedTables.{Names}
use Rattle.kr_cli.specs.GhostTables.{ghosts_of}
use Rattle.kr_cli.specs.GhostScripts.{IsSerialGhosts, NamesGhostScript}
use Rattle.kr_cli.specs.declared.named.Named.{Named}
use Rattle.kr_cli.specs.declared.named.Named.TheVariants.{Table, Ghosts}
use Rattle.kr_cli_tasks.specs.Runs.{IsSerialScript}

-- Every run under a table is serializable in commit order: for all steps of all transactions on all keys from any opening map, with purges where deletes leave ghosts.
abbrev pub RunsSerially : Named → Type 0
RunsSerially (Table t) = RunsAreSerial (table_of t)
RunsSerially (Ghosts t) = GhostRunsAreSerial (ghosts_of t)

-- A word names a script whose run under a table is serializable in commit order.
abbrev pub SerialScript : (List ℕ → Option (List ℕ) → Type 0) → Named → List ℕ → Type 0
SerialScript may_give (Table t) script = (s : Script) × (NamesScript may_give script s × IsSerialScript (table_of t) s)
SerialScript may_give (Ghosts t) script = (s : GhostScript) × (NamesGhostScript may_give script s × IsSerialGhosts (ghosts_of t) s)

-- A word names a table under which every run is serializable in commit order.
abbrev pub NamesSerial : (List ℕ → Option (List ℕ) → Type 0) → List ℕ → Type 0
NamesSerial may_give table = (t : Named) × (Names may_give table t × RunsSerially t)

-- A word names a table under which the run of each script that these words name is serializable in commit order.
abbrev pub AreSerialUnder : (List ℕ → Option (List ℕ) → Type 0) → List ℕ → List (List ℕ) → Type 0
AreSerialUnder may_give table scripts = (t : Named) × (Names may_give table t × All (SerialScript may_give t) scripts)
