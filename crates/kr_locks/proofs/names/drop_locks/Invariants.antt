use Rattle.std.proofs.Common.{◌≡◌, drop}
use Rattle.kr_locks.specs.Buckets.{IsNames, locks_of, forget_all}
use Rattle.kr_locks.proofs.names.drop_locks.Given as goal

-- what is left to take away leads to the same locks
abbrev pub invariant-loop-name : goal.invariant-loop-name
invariant-loop-name l = record {
  in_order : IsNames l.names.entries;
  locks : forget_all (locks_of l.names.entries) l.txn (drop l.name-index l.list) ≡ forget_all (locks_of l.fn.names.entries) l.txn l.list;
}
