use Rattle.std.proofs.Common.{◌≡◌, drop}
use Rattle.kr_model.specs.Difference.{first_difference}
use Rattle.kr_judge.proofs.judging.judge_programs.Given as goal

-- The programs that are left differ first as all of them do.
abbrev pub invariant-loop-program : goal.invariant-loop-program
invariant-loop-program l = record {
  differs : first_difference l.map (drop l.program-index l.programs) ≡ first_difference l.opening l.programs;
}
