-- Runs in an index of either kind, and the main theorem of both.
use Rattle.std.specs.Prelude.{◌≡◌, ℕ, List, [], ◌∷◌}
use Rattle.kr_model.specs.declared.Event.{Event}
use Rattle.kr_model.specs.Map.{Map, IsMap}
use Rattle.kr_model.specs.Protocol.{Protocol}
use Rattle.kr_model.specs.Run as gone
use Rattle.kr_model.specs.Serial.{IsSerialRun}
use Rattle.kr_ghost.specs.declared.moves.Move.{Move}
use Rattle.kr_ghost.specs.declared.moves.Move.TheVariants.{Attempt, Purge}
use Rattle.kr_ghost.specs.Protocol.{GhostProtocol}
use Rattle.kr_ghost.specs.State.{GhostState, opened}
use Rattle.kr_ghost.specs.Run as ghost
use Rattle.kr_ghost.specs.Run.{GhostTrace}
use Rattle.kr_kinds.specs.Kinds.{IndexProtocol, Gone, Leaves}
use Rattle.kr_kinds.specs.Steps.{step, purged}

-- The moves one after another from s; a purge has no reply, and is part of no program.
abbrev pub run : IndexProtocol → GhostState → List Move → GhostTrace
run p s [] = record { history = []; last = s }
run p s (Attempt e ∷ moves) =
    let o = step p s e.txn e.op in
    let rest = run p o.1 moves in
    record { history = (e, o.0) ∷ rest.history; last = rest.last }
run p s (Purge k ∷ moves) = run p (purged p s k) moves

-- The run from the opening map is serializable in commit order.
abbrev pub IsSerialIndexRun : IndexProtocol → Map → List Move → Type 0
IsSerialIndexRun p opening moves =
    let r = run p (opened opening) moves in
    let last = r.last in
    IsSerialRun opening (record { history = r.history; state = last.state })

-- Every run under p is, from any opening map and by any moves.
abbrev pub RunsAreSerial : IndexProtocol → Type 0
RunsAreSerial p = (opening : Map) (moves : List Move) → IsMap opening → IsSerialIndexRun p opening moves

-- Each kind's runs are its own --

-- The steps among moves.
abbrev pub steps_in : List Move → List Event
steps_in [] = []
steps_in (Attempt e ∷ moves) = e ∷ steps_in moves
steps_in (Purge k ∷ moves) = steps_in moves

-- A run without ghosts, beside these ghosts.
abbrev pub beside : List ℕ → gone.Trace → GhostTrace
beside ghosts r = record { history = r.history; last = record { state = r.state; ghosts = ghosts } }

-- Where a deleted key goes at once, a run is that of its steps, and its ghosts stay as they were: none, from an opening map.
abbrev pub AreRunsOfSteps : Protocol → Type 0
AreRunsOfSteps p = (s : GhostState) (moves : List Move) → run (Gone p) s moves ≡ beside s.ghosts (gone.run p s.state (steps_in moves))

-- Where a deleted key stays as a ghost, a run is that of an index with ghosts.
abbrev pub AreRunsWithGhosts : GhostProtocol → Type 0
AreRunsWithGhosts p = (s : GhostState) (moves : List Move) → run (Leaves p) s moves ≡ ghost.run p s moves
