-- What is written of runs under a table with ghosts, and of the verdicts on them.
use Rattle.std.specs.Prelude.{◌≡◌, ◌↔◌, ℕ, Bool, List, [], ◌∷◌, ◌++◌, Option, IsTrue, All, map}
use Rattle.kr_ghost.specs.Protocol.{GhostProtocol}
use Rattle.kr_ghost.specs.State.{opened}
use Rattle.kr_script.specs.GhostScript.{GhostScript}
use Rattle.kr_ghost_run.specs.Ran.{answers, verdict_of_moves}
use Rattle.kr_report.specs.Report.{verdict_text}
use Rattle.kr_ghost_report.specs.RunReport.{ghost_run_text}
use Rattle.kr_cli.specs.GhostScripts.{ghost_run_of, IsSerialGhosts, NameGhostScripts}

-- The report of a script's run under a protocol whose modes have these names, with that run's verdict.
abbrev pub ghost_report_text : GhostProtocol → List (List ℕ) → GhostScript → List ℕ
ghost_report_text p names s =
    let r = ghost_run_of p s in
    let last = r.last in
    ghost_run_text names last.ghosts last.state.map last.state.locks (answers p (opened s.opening) s.moves) (map (λ a. a.0) last.state.active)
    (verdict_of_moves p s.opening s.moves)

-- The same with a line feed.
abbrev pub ghost_report_line : GhostProtocol → List (List ℕ) → GhostScript → List ℕ
ghost_report_line p names s = ghost_report_text p names s ++ 10 ∷ []

-- The lines of the verdicts on scripts of these names, in their order; what has no name, or no script, has none.
abbrev pub ghost_judge_lines : GhostProtocol → List (List ℕ) → List GhostScript → List ℕ
ghost_judge_lines p [] ss = []
ghost_judge_lines p (n ∷ ns) [] = []
ghost_judge_lines p (n ∷ ns) (s ∷ ss) = verdict_text n (verdict_of_moves p s.opening s.moves) ++ (10 ∷ ghost_judge_lines p ns ss)

-- Words name scripts; the text has the lines of the verdicts on their runs, and the answer is whether each run is serializable.
pub record AreJudged (may_give : List ℕ → Option (List ℕ) → Type 0) (p : GhostProtocol) (words : List (List ℕ)) (text : List ℕ) (serial : Bool) : Type 0 where
  pub scripts : List GhostScript
  pub names : NameGhostScripts may_give words scripts
  pub lines : text ≡ ghost_judge_lines p words scripts
  pub answer : IsTrue serial ↔ All (IsSerialGhosts p) scripts
