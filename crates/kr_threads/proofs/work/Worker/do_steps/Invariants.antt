use Rattle.std.proofs.Common.{◌≡◌, Some}
use Rattle.kr_threads.proofs.work.Worker.do_steps.Given as goal

-- the seat still speaks for the transaction
abbrev pub invariant-loop-i : goal.invariant-loop-i
invariant-loop-i g l = l.self.seat.speaks ≡ Some l.txn
