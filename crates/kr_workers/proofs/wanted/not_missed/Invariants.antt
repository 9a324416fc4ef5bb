use Rattle.std.proofs.Common.{◌≡◌, ◌+◌, ◌++◌, drop}
use Rattle.kr_workers.specs.Follows.{done_from}
use Rattle.kr_workers.proofs.wanted.not_missed.Given as goal

-- Those so far, and then what is done of the rest, are all that is done.
abbrev pub invariant-loop-i : goal.invariant-loop-i
invariant-loop-i l = l.list.items ++ done_from l.faults l.txn (l.i + 1) (drop l.i l.ops) ≡ done_from l.faults l.txn 1 l.ops
