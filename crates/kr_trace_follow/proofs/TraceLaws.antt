-- Lines that don't deviate are those of a run that is serializable in commit order, as they were given.
use Rattle.std.specs.Prelude.{◌≡◌, List, None}
use Rattle.kr_model.specs.Protocol.{Protocol, IsLawful}
use Rattle.kr_model.specs.Covers.{IsCovered}
use Rattle.kr_model.specs.Safe.{IsSafe}
use Rattle.kr_model.specs.Map.{Map, IsMap}
use Rattle.kr_theorem.proofs.safe.AllCases.{covered_is_safe}
use Rattle.kr_judge.proofs.SafeRuns.{safe_programs}
use Rattle.kr_trace_follow.specs.Conforms.{IsSerialTrace}
use Rattle.kr_trace_follow.specs.Following.{at_start, deviation, steps_in}
use Rattle.kr_trace_follow.specs.Lines.{Line}
use Rattle.kr_trace_follow.specs.Programs.{given_programs}
use Rattle.kr_trace_follow.proofs.ConformLaws.{lines_ran, all_fit}
use Rattle.kr_trace_follow.proofs.TaleLines.{given_serial}
use Rattle.kr_trace_follow.proofs.GivenLaws.{none_differs}

pub safe_trace : (p : Protocol) → IsLawful p → IsSafe p → (opening : Map) → IsMap opening → (lines : List Line) → deviation p (at_start opening) lines ≡ None → IsSerialTrace p opening lines
safe_trace p laws safe opening sorted lines none =
    let serial = safe_programs p laws safe opening (steps_in p (at_start opening) lines) sorted in
    let given = given_serial p opening lines none serial in
    record {
      fit = all_fit p (at_start opening) lines none;
      state = lines_ran p (at_start opening) lines;
      serial = serial;
      given = given;
      judged = none_differs opening (given_programs lines) given;
    }

pub covered_trace : (p : Protocol) → IsLawful p → IsCovered p → (opening : Map) → IsMap opening → (lines : List Line) → deviation p (at_start opening) lines ≡ None → IsSerialTrace p opening lines
covered_trace p laws covered = safe_trace p laws (covered_is_safe p laws covered)
