-- Histories of moves that were made in an index with ghosts.
use Rattle.std.specs.Prelude.{◌≡◌, Bool, List, [], ◌∷◌, map}
use Rattle.kr_model.specs.declared.Event.{Event}
use Rattle.kr_model.specs.Map.{Map}
use Rattle.kr_model.specs.Run.{Program, programs, is_granted}
use Rattle.kr_ghost.specs.declared.moves.Move.{Move}
use Rattle.kr_ghost.specs.declared.moves.Move.TheVariants as move
use Rattle.kr_ghost.specs.Protocol.{GhostProtocol}
use Rattle.kr_ghost.specs.State.{GhostState, opened}
use Rattle.kr_ghost.specs.Run.{run}
use Rattle.kr_ghost_run.specs.declared.ran.Answer.{Answer}
use Rattle.kr_ghost_run.specs.declared.ran.Answer.TheVariants as answer
use Rattle.kr_ghost_run.specs.Ran.{answers}
use Rattle.kr_ghost_threads.specs.declared.made.Made.{Made}

-- The moves of a history.
abbrev pub moves_of : List Made → List Move
moves_of h = map (λ m. m.next) h

-- The answers to them.
abbrev pub answers_of : List Made → List Answer
answers_of h = map (λ m. m.answer) h

-- The steps among moves.
abbrev pub steps_in : List Move → List Event
steps_in [] = []
steps_in (move.Attempt e ∷ moves) = e ∷ steps_in moves
steps_in (move.Purge k ∷ moves) = steps_in moves

-- The steps of a history.
abbrev pub steps_of : List Made → List Event
steps_of h = steps_in (moves_of h)

-- Whether an answer says that the move was done: a step that was granted, or a purge that took its ghost away.
abbrev pub is_done : Answer → Bool
is_done (answer.Step r) = is_granted r
is_done (answer.Purge b) = b

-- The history is a run under p from the opening map, with no ghosts at first, and ends in the state.
pub record IsHistory (p : GhostProtocol) (opening : Map) (h : List Made) (s : GhostState) : Type 0 where
  pub answers : answers_of h ≡ answers p (opened opening) (moves_of h)
  pub last : (let r = run p (opened opening) (moves_of h) in r.last) ≡ s

-- The programs of the transactions that commit in the run of a history.
abbrev pub programs_of : GhostProtocol → Map → List Made → List Program
programs_of p opening h = let r = run p (opened opening) (moves_of h) in programs r.history
