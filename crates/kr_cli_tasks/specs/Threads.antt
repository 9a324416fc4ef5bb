-- What is written of a run by several threads, with ghosts or without.
use Rattle.std.specs.Prelude.{ℕ, List, ◌++◌, [], ◌∷◌}
use Rattle.kr_model.specs.Difference.{first_difference}
use Rattle.kr_judge.specs.Verdicts.{verdict_of}
use Rattle.kr_report.specs.ThreadsReport.{threads_text}
use Rattle.kr_report.specs.declared.threaded.Threaded.{Threaded}
use Rattle.kr_ghost.specs.Protocol.{GhostProtocol}
use Rattle.kr_ghost_run.specs.Ran.{verdict_of_moves}
use Rattle.kr_ghost_threads.specs.declared.made.GhostThreaded.{GhostThreaded}
use Rattle.kr_ghost_threads.specs.Histories.{moves_of}
use Rattle.kr_ghost_threads.specs.Report.{ghost_threads_text}
use Rattle.kr_model.specs.Map.{Map}

-- The report of what several threads did, with the verdict on its run and a line feed.
abbrev pub threads_line : Threaded → List ℕ
threads_line d = threads_text d.faults.items d.history.items d.ran.index d.ran.unfinished (verdict_of (first_difference d.ran.opening d.ran.programs)) ++ 10 ∷ []

-- The same of a run with ghosts: the verdict is that on the moves of its history, from the opening map.
abbrev pub ghost_threads_line : GhostProtocol → Map → GhostThreaded → List ℕ
ghost_threads_line p opening d = ghost_threads_text d.faults.items d.ghosts d.history.items d.index [] (verdict_of_moves p opening (moves_of d.history.items)) ++ 10 ∷ []
