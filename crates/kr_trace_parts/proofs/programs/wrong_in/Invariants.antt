-- the programs so far are serializable, and the judge has the map that they leave
use Rattle.std.specs.Prelude.{◌≡◌, map, take}
use Rattle.kr_trace_parts.specs.Committed.{AreSerial, map_left}
use Rattle.kr_trace_parts.specs.Kept.{shown}
use Rattle.kr_trace_parts.specs.Printed.{in_order}
use Rattle.kr_trace_parts.proofs.programs.wrong_in.Given as goal

abbrev pub invariant-loop-i : goal.invariant-loop-i
invariant-loop-i l = record {
  serial : AreSerial l.opening (in_order (map shown l.committed) (take l.i l.txns));
  left : l.judge.map ≡ map_left l.opening (in_order (map shown l.committed) (take l.i l.txns));
}
