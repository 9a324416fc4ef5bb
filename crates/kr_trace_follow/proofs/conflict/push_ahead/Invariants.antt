use Rattle.std.proofs.Common.{◌≡◌, ◌++◌, take}
use Rattle.kr_trace_follow.specs.Conflicts.{waits_for_conflicts}
use Rattle.kr_trace_follow.proofs.conflict.push_ahead.Given as goal

-- those so far who wait for a lock that conflicts were added
abbrev pub invariant-loop-i : goal.invariant-loop-i
invariant-loop-i g l = record {
  added : l.list.items ≡ l.fn.list.items ++ waits_for_conflicts (g.P.Protocol.table l.protocol) (take l.i l.waiting) l.request;
}
