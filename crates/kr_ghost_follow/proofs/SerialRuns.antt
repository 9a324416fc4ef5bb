-- Lines beside which a state stands are those of a run that is serializable in commit order, as they were given.
use Rattle.std.specs.Prelude.{List, map}
use Rattle.kr_model.specs.Map.{Map, IsMap}
use Rattle.kr_model.specs.Run.{programs}
use Rattle.kr_model.specs.Serial.{AreSerial, IsSerialRun}
use Rattle.kr_ghost.specs.Covers.{IsCoveredGhost}
use Rattle.kr_ghost.specs.declared.moves.Move.{Move}
use Rattle.kr_ghost.specs.Protocol.{GhostProtocol, IsLawfulGhost}
use Rattle.kr_ghost.specs.Run.{run}
use Rattle.kr_ghost.specs.Safe.{IsSafeGhost}
use Rattle.kr_ghost.specs.State.{opened}
use Rattle.kr_ghost.proofs.AllCases.{covered_is_safe}
use Rattle.kr_ghost.proofs.Runs.{safe_runs_are_serial}
use Rattle.kr_trace_follow.specs.Lines.{Line}
use Rattle.kr_trace_follow.specs.Programs.{given_programs}
use Rattle.kr_trace_follow.specs.Upwards.{line_upwards}
use Rattle.kr_trace_follow.proofs.GivenLaws.{none_differs}
use Rattle.kr_ghost_follow.specs.Conforms.{IsSerialRunOf}
use Rattle.kr_ghost_follow.specs.Points.{Point}
use Rattle.kr_ghost_follow.specs.Reached.{IsReached}
use Rattle.kr_ghost_follow.proofs.GivenLines.{given_serial}
use Rattle.kr_ghost_follow.proofs.RunLaws.{leads_run}

-- What commits in a run under a safe protocol is serializable.
safe_programs : (p : GhostProtocol) → IsLawfulGhost p → IsSafeGhost p → (opening : Map) (moves : List Move) → IsMap opening → AreSerial opening (let r = run p (opened opening) moves in programs r.history)
safe_programs p laws safe opening moves sorted =
    let r = run p (opened opening) moves in
    let last = r.last in
    let serial : IsSerialRun opening (record { history = r.history; state = last.state }) = safe_runs_are_serial p laws safe opening moves sorted in
    serial.0

pub serial_run : (p : GhostProtocol) → IsLawfulGhost p → IsSafeGhost p → (opening : Map) → IsMap opening → (lines : List Line) (at : Point) → IsReached p opening lines at → IsSerialRunOf p opening lines at
serial_run p laws safe opening sorted lines at h =
    let serial = safe_programs p laws safe opening h.0 sorted in
    let given = given_serial p opening sorted lines h.0 at h.1 serial in
    record {
      moves = h.0;
      leads = h.1;
      state = leads_run p opening lines h.0 at h.1;
      serial = serial;
      given = given;
      judged = none_differs opening (given_programs (map line_upwards lines)) given;
    }

pub covered_run : (p : GhostProtocol) → IsLawfulGhost p → IsCoveredGhost p → (opening : Map) → IsMap opening → (lines : List Line) (at : Point) → IsReached p opening lines at → IsSerialRunOf p opening lines at
covered_run p laws covered = serial_run p laws (covered_is_safe p laws covered)
