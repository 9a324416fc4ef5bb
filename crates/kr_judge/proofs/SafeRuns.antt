-- What commits in a run under a safe protocol, or a covered one, is serializable in commit order.
use Rattle.std.specs.Prelude.{List}
use Rattle.kr_model.specs.declared.Event.{Event}
use Rattle.kr_model.specs.Map.{Map, IsMap}
use Rattle.kr_model.specs.Protocol.{Protocol, IsLawful}
use Rattle.kr_model.specs.Covers.{IsCovered}
use Rattle.kr_model.specs.Safe.{IsSafe}
use Rattle.kr_model.specs.State.{start}
use Rattle.kr_model.specs.Run.{run, programs}
use Rattle.kr_model.specs.Serial.{AreSerial, IsSerialRun}
use Rattle.kr_theorem.proofs.safe.AllCases.{covered_is_safe}
use Rattle.kr_theorem.proofs.run.Runs.{safe_runs_are_serial}

-- What commits in a run under a safe protocol is serializable.
pub safe_programs : (p : Protocol) → IsLawful p → IsSafe p → (opening : Map) (events : List Event) → IsMap opening
    → AreSerial opening (programs (run p (start opening) events).history)
safe_programs p laws safe opening events sorted =
    let serial : IsSerialRun opening (run p (start opening) events) = safe_runs_are_serial p laws safe opening events sorted in
    serial.0

-- So is what commits in a run under a covered protocol.
pub covered_programs : (p : Protocol) → IsLawful p → IsCovered p → (opening : Map) (events : List Event) → IsMap opening
    → AreSerial opening (programs (run p (start opening) events).history)
covered_programs p laws covered = safe_programs p laws (covered_is_safe p laws covered)
