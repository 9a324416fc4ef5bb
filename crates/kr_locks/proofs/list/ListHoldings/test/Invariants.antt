use Rattle.std.proofs.Common.{◌≡◌, [], take, filter}
use Rattle.kr_locks.specs.List.{lock_conflicts}
use Rattle.kr_locks.proofs.Conflicts.{IsAsked}
use Rattle.kr_locks.proofs.list.ListHoldings.test.Given as goal

-- no lock so far conflicts
abbrev pub invariant-loop-lock : goal.invariant-loop-lock
invariant-loop-lock g l = record {
  asked : IsAsked (g.P.Protocol.table l.protocol) l.self l.txn l.fn.name l.mode l.converted l.lock-items;
  none : filter (lock_conflicts (g.P.Protocol.table l.protocol) l.txn l.converted) (take l.lock-index l.lock-items) ≡ [];
}
