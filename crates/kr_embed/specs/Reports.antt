-- What a check, a decision and a run of bytes report.
use Rattle.std.specs.Prelude.{◌≡◌, ◌↔◌, ℕ, Bool, List, Ok, IsTrue, map}
use Rattle.kr_model.specs.ModeNames.{name_of}
use Rattle.kr_model.specs.Covers as gone
use Rattle.kr_model.specs.State.{start}
use Rattle.kr_model.specs.Run.{Trace, run, replies_of, programs}
use Rattle.kr_model.specs.Serial.{AreSerial}
use Rattle.kr_ghost.specs.Covers as leaving
use Rattle.kr_ghost.specs.State.{opened}
use Rattle.kr_script.specs.GhostScript.{GhostScript}
use Rattle.kr_script.specs.GhostReading as ghost_script
use Rattle.kr_ghost_run.specs.Ran.{answers, verdict_of_moves}
use Rattle.kr_ghost_report.specs.RunReport.{ghost_run_text}
use Rattle.kr_judge.specs.Verdicts.{verdict_of_run}
use Rattle.kr_kinds.specs.Kinds.{IsCoveredIndex, IsSafeIndex}
use Rattle.kr_script.specs.Script.{Script}
use Rattle.kr_script.specs.Reading.{reading}
use Rattle.kr_report.specs.CheckReport as gone_report
use Rattle.kr_report.specs.GhostCheckReport as ghost_report
use Rattle.kr_report.specs.Report.{run_text}
use Rattle.kr_cli.specs.declared.tables.AnyTable.{AnyTable}
use Rattle.kr_cli.specs.declared.ghost_tables.AnyGhostTable.{AnyGhostTable}
use Rattle.kr_cli.specs.declared.named.Named.{Named}
use Rattle.kr_cli.specs.declared.named.Named.TheVariants.{Table, Ghosts}
use Rattle.kr_cli.specs.Tables.{table_of, names_of}
use Rattle.kr_cli.specs.GhostTables as ghost
use Rattle.kr_cli.specs.GhostScripts.{ghost_run_of, IsSerialGhosts}
use Rattle.kr_embed.specs.Inputs.{IsTable}
use Rattle.kr_embed.specs.Tables as any

-- Checks and decisions --

-- The report of the check of a table without ghosts: that of all its cases that fail.
abbrev pub report_of_gone : AnyTable → List ℕ
report_of_gone t = gone_report.check_text (table_of t) (names_of t) (gone.failed_cases (table_of t))

-- The same of a table with ghosts.
abbrev pub report_of_leaving : AnyGhostTable → List ℕ
report_of_leaving t = ghost_report.check_text (ghost.ghosts_of t) (ghost.names_of t) (leaving.failed_cases (ghost.ghosts_of t))

-- The report of the check of a table.
abbrev pub report_of_check : Named → List ℕ
report_of_check (Table t) = report_of_gone t
report_of_check (Ghosts t) = report_of_leaving t

-- The table that the bytes are is accepted or not, and the text is the report of its check.
abbrev pub IsChecked : List ℕ → Bool → List ℕ → Type 0
IsChecked bytes accepted text = (t : Named) × (IsTable bytes t × ((IsTrue accepted ↔ IsCoveredIndex (any.index_of t)) × (text ≡ report_of_check t)))

-- The table that the bytes are is safe or not.
abbrev pub IsDecided : List ℕ → Bool → Type 0
IsDecided bytes safe = (t : Named) × (IsTable bytes t × (IsTrue safe ↔ IsSafeIndex (any.index_of t)))

-- Runs --

-- The run of a script under a table without ghosts.
abbrev pub run_of : AnyTable → Script → Trace
run_of t s = run (table_of t) (start s.opening) s.steps

-- The report of that run, with its verdict.
abbrev pub report_of_run : AnyTable → Script → List ℕ
report_of_run t s =
    let r = run_of t s in
    run_text (names_of t) r.state.map r.state.locks (replies_of r.history) (map (λ a. a.0) r.state.active) (verdict_of_run (table_of t) s.opening s.steps)

-- The transactions that commit in that run are serializable.
abbrev pub IsSerialScript : AnyTable → Script → Type 0
IsSerialScript t s = AreSerial s.opening (programs (run_of t s).history)

-- The report of the run of a script that may have purges under a table with ghosts, with its verdict.
abbrev pub report_of_moves : AnyGhostTable → GhostScript → List ℕ
report_of_moves t s =
    let p = ghost.ghosts_of t in
    let r = ghost_run_of p s in
    let last = r.last in
    ghost_run_text (ghost.names_of t) last.ghosts last.state.map last.state.locks (answers p (opened s.opening) s.moves) (map (λ a. a.0) last.state.active)
    (verdict_of_moves p s.opening s.moves)

-- The run of the script that bytes are, under a table, is serializable or not, and the text is its report. Under a table with ghosts the script may have purges.
abbrev pub IsRunUnder : Named → List ℕ → Bool → List ℕ → Type 0
IsRunUnder (Table t) script serial text = (s : Script) × ((reading script ≡ Ok s) × ((IsTrue serial ↔ IsSerialScript t s) × (text ≡ report_of_run t s)))
IsRunUnder (Ghosts t) script serial text =
    (s : GhostScript) × ((ghost_script.reading script ≡ Ok s) × ((IsTrue serial ↔ IsSerialGhosts (ghost.ghosts_of t) s) × (text ≡ report_of_moves t s)))

-- The same under the table that bytes are.
abbrev pub IsRun : List ℕ → List ℕ → Bool → List ℕ → Type 0
IsRun table script serial text = (t : Named) × (IsTable table t × IsRunUnder t script serial text)

-- Modes --

-- The name of a mode of the table that the bytes are.
abbrev pub IsModeName : List ℕ → ℕ → List ℕ → Type 0
IsModeName bytes mode text = (t : Named) × (IsTable bytes t × (text ≡ name_of (any.names_of t) mode))
