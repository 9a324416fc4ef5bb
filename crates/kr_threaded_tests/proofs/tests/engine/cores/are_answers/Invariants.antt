use Rattle.std.proofs.Common.{◌≡◌, length}
use Rattle.kr_threaded_tests.proofs.tests.engine.cores.are_answers.Given as goal

-- the core has two seats
abbrev pub invariant-loop-seat : goal.invariant-loop-seat
invariant-loop-seat g l = length l.core.seats ≡ 2
