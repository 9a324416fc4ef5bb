use Rattle.std.proofs.Common.{◌≡◌, map}
use Rattle.kr_workers.proofs.left_out.faults_of.Given as goal

-- the faults so far
abbrev pub invariant-loop-left : goal.invariant-loop-left
invariant-loop-left l = l.faults.items ≡ map (λ x. x.fault) l.yielded
