-- Runs of scripts with purges in several threads.
use Rattle.std.specs.Prelude.{◌≡◌, true, List, [], All}
use Rattle.kr_model.specs.Map.{Map}
use Rattle.kr_workers.specs.Follows.{Follows}
use Rattle.kr_ghost.specs.declared.moves.Move.{Move}
use Rattle.kr_ghost.specs.Protocol.{GhostProtocol}
use Rattle.kr_ghost.specs.State.{GhostState}
use Rattle.kr_ghost_threads.specs.declared.made.GhostThreaded.{GhostThreaded}
use Rattle.kr_ghost_threads.specs.Histories.{IsHistory, is_done, steps_in, steps_of}
use Rattle.kr_ghost_threads.specs.Told.{IsTold}

-- What a run leaves that all workers have left. Its history is a run under p from the opening map, of steps that were granted and purges that took a ghost away, and ends in a state with no active transaction. Each fault is told at the end of a prefix of the history, where its transaction has come to just this step. Index and ghosts are the state's.
pub record IsOver (p : GhostProtocol) (opening : Map) (d : GhostThreaded) : Type 0 where
  pub state : GhostState
  pub run : IsHistory p opening d.history.items state
  pub done : All (λ m. is_done m.answer ≡ true) d.history.items
  pub ended : state.state.active ≡ []
  pub told : All (IsTold p opening d.faults.items d.history.items) d.faults.items
  pub index : d.index ≡ state.state.map
  pub ghosts : d.ghosts ≡ state.ghosts

-- What a run of a script in several threads leaves: it is over, and follows the script's steps, but for the faults. Purges may come anywhere.
pub record IsGhostThreaded (p : GhostProtocol) (opening : Map) (moves : List Move) (d : GhostThreaded) : Type 0 where
  pub over : IsOver p opening d
  pub follows : Follows (steps_in moves) d.faults.items (steps_of d.history.items)
