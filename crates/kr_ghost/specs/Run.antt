-- Runs of an index with ghosts: operations of transactions, and purges at any time between them.
use Rattle.std.specs.Prelude.{List, [], ◌∷◌}
use Rattle.kr_model.specs.Map.{Map, IsMap}
use Rattle.kr_model.specs.Run.{Entry}
use Rattle.kr_model.specs.Serial.{IsSerialRun}
use Rattle.kr_ghost.specs.declared.moves.Move.{Move}
use Rattle.kr_ghost.specs.declared.moves.Move.TheVariants.{Attempt, Purge}
use Rattle.kr_ghost.specs.Protocol.{GhostProtocol}
use Rattle.kr_ghost.specs.State.{GhostState, opened}
use Rattle.kr_ghost.specs.Step.{step, purged}

-- The steps with their replies, in order, and the state after the last move.
pub record GhostTrace : Type 0 where
  pub history : List Entry
  pub last : GhostState

-- The moves one after another from s; a purge has no reply, and is part of no program.
abbrev pub run : GhostProtocol → GhostState → List Move → GhostTrace
run p s [] = record { history = []; last = s }
run p s (Attempt e ∷ moves) =
    let o = step p s e.txn e.op in
    let rest = run p o.1 moves in
    record { history = (e, o.0) ∷ rest.history; last = rest.last }
run p s (Purge k ∷ moves) = run p (purged p s k) moves

-- Every run under p is serializable in commit order, from any opening map and by any moves.
abbrev pub GhostRunsAreSerial : GhostProtocol → Type 0
GhostRunsAreSerial p =
    (opening : Map) (moves : List Move) → IsMap opening
    → let r = run p (opened opening) moves in
    let last = r.last in
    IsSerialRun opening (record { history = r.history; state = last.state })
