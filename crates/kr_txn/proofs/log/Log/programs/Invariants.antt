use Rattle.std.proofs.Common.{◌≡◌, take}
use Rattle.kr_txn.proofs.log.Log.programs.Given as goal

-- The programs so far are copied.
abbrev pub invariant-loop-program : goal.invariant-loop-program
invariant-loop-program l = l.list.items ≡ take l.program-index l.self.log.committed
