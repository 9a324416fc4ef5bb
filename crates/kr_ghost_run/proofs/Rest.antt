-- A run whose first moves are done.
use Rattle.std.specs.Prelude.{◌≡◌, List, ◌++◌}
use Rattle.kr_model.specs.Log.{Log, log_after}
use Rattle.kr_ghost.specs.declared.moves.Move.{Move}
use Rattle.kr_ghost.specs.Protocol.{GhostProtocol}
use Rattle.kr_ghost.specs.State.{GhostState}
use Rattle.kr_ghost.specs.Run.{run}
use Rattle.kr_ghost_run.specs.declared.ran.Answer.{Answer}
use Rattle.kr_ghost_run.specs.Ran.{answers}

-- The answers given so far, then those to the moves left, are those to all moves from `first`; both end in one state, and with one log.
pub record IsRest (p : GhostProtocol) (first : GhostState) (begun : Log) (all : List Move) (now : GhostState) (so_far : Log) (left : List Move) (given : List Answer) : Type 0 where
  pub told : given ++ answers p now left ≡ answers p first all
  pub last : (let r = run p now left in r.last) ≡ (let r = run p first all in r.last)
  pub log : (let r = run p now left in log_after so_far r.history) ≡ (let r = run p first all in log_after begun r.history)

-- The same of a run of which no log is kept.
pub record IsLeft (p : GhostProtocol) (first : GhostState) (all : List Move) (now : GhostState) (left : List Move) (given : List Answer) : Type 0 where
  pub told : given ++ answers p now left ≡ answers p first all
  pub last : (let r = run p now left in r.last) ≡ (let r = run p first all in r.last)
