use Rattle.std.proofs.Common.{◌≡◌, take}
use Rattle.kr_locks.proofs.Conflicts.{IsAsked, conflicting}
use Rattle.kr_locks.proofs.list.ListHoldings.blockers.Given as goal

-- those of the locks so far that conflict
abbrev pub invariant-loop-lock : goal.invariant-loop-lock
invariant-loop-lock g l = record {
  asked : IsAsked (g.P.Protocol.table l.protocol) l.self l.txn l.fn.name l.mode l.converted l.lock-items;
  found : l.blockers.items ≡ conflicting (g.P.Protocol.table l.protocol) l.txn l.converted (take l.lock-index l.lock-items);
}
