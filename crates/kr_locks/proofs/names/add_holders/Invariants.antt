use Rattle.std.proofs.Common.{◌≡◌, ◌++◌, drop}
use Rattle.kr_locks.specs.Buckets.{locks_at}
use Rattle.kr_locks.proofs.names.add_holders.Given as goal

-- the list so far, then the locks of the holders that are left, are all
abbrev pub invariant-loop-txn : goal.invariant-loop-txn
invariant-loop-txn l = l.all.items ++ locks_at l.name (drop l.txn-index l.holders) ≡ l.initial.all.items ++ locks_at l.name l.holders
