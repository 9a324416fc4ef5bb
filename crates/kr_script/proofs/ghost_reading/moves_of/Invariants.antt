use Rattle.std.proofs.Common.{◌≡◌, ◌++◌, drop}
use Rattle.serde_json.specs.View.{items_view}
use Rattle.kr_script.specs.GhostReading.{move_faults, moves_of}
use Rattle.kr_script.proofs.ghost_reading.moves_of.Given as goal

-- no fault so far, and the moves so far
abbrev pub invariant-loop-i : goal.invariant-loop-i
invariant-loop-i l = record {
  faults : move_faults l.format 0 (items_view l.list) ≡ move_faults l.format l.i (items_view (drop l.i l.list));
  moves : moves_of l.format (items_view l.list) ≡ l.moves.items ++ moves_of l.format (items_view (drop l.i l.list));
}
