use Rattle.std.proofs.Common.{◌≡◌, suc, drop}
use Rattle.kr_model.specs.Serial.{map_left}
use Rattle.kr_model.specs.Difference.{difference_in}
use Rattle.kr_judge.proofs.judging.judge_program.Given as goal

-- What is left of the program differs first, and leaves a map, as the whole program does.
abbrev pub invariant-loop-i : goal.invariant-loop-i
invariant-loop-i l = record {
  differs : difference_in l.program.txn l.map (suc l.i) (drop l.i l.operations) ≡ difference_in l.program.txn l.fn.map 1 l.program.operations;
  left : map_left l.map (drop l.i l.operations) ≡ map_left l.fn.map l.program.operations;
}
