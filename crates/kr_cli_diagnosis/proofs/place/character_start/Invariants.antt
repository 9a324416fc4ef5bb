use Rattle.std.proofs.Common.{◌≤◌}
use Rattle.kr_cli_diagnosis.proofs.place.character_start.Given as goal

abbrev pub invariant-loop-start : goal.invariant-loop-start
invariant-loop-start l = l.start ≤ l.offset

abbrev pub decreases-loop-start : goal.decreases-loop-start
decreases-loop-start l = l.start
