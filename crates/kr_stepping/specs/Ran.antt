-- What a run in an index of either kind leaves.
use Rattle.std.specs.Prelude.{◌≡◌, ◌≤◌, List, All, map}
use Rattle.kr_model.specs.Map.{Map}
use Rattle.kr_model.specs.Run.{programs}
use Rattle.kr_ghost.specs.declared.moves.Move.{Move}
use Rattle.kr_ghost.specs.State.{opened}
use Rattle.kr_ghost_run.specs.declared.ran.GhostRan.{GhostRan}
use Rattle.kr_kinds.specs.Kinds.{IndexProtocol, table_of}
use Rattle.kr_kinds.specs.Runs.{run}
use Rattle.kr_stepping.specs.Answers.{answers}

-- What the definition's run of these moves under p from the opening map leaves.
pub record IsIndexRan (p : IndexProtocol) (opening : Map) (moves : List Move) (ran : GhostRan) : Type 0 where
  -- an answer for each move
  pub answers : ran.answers ≡ answers p (opened opening) moves
  -- the programs are those of the transactions that commit in the run
  pub programs : ran.programs ≡ (let r = run p (opened opening) moves in programs r.history)
  -- index, ghosts, locks and unfinished transactions are those of the run's last state; the mode of each lock is one of p's
  pub index : ran.index ≡ (let r = run p (opened opening) moves in let s = r.last in s.state.map)
  pub ghosts : ran.ghosts ≡ (let r = run p (opened opening) moves in let s = r.last in s.ghosts)
  pub locks : ran.locks ≡ (let r = run p (opened opening) moves in let s = r.last in s.state.locks)
  pub modes : All (λ l. l.1 ≤ (table_of p).count) ran.locks
  pub unfinished : ran.unfinished ≡ (let r = run p (opened opening) moves in let s = r.last in map (λ a. a.0) s.state.active)
