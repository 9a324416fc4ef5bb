use Rattle.std.proofs.Common.{◌≡◌, take}
use Rattle.std.specs.List.{flat_map}
use Rattle.kr_trace_follow.specs.Conflicts.{waits_ahead}
use Rattle.kr_trace_follow.proofs.conflict.ahead_of_all.Given as goal

-- who waits ahead of the requests so far is in the list
abbrev pub invariant-loop-i : goal.invariant-loop-i
invariant-loop-i g l = record {
  so_far : l.list.items ≡ flat_map (waits_ahead (g.P.Protocol.table l.protocol) l.waiting) (take l.i l.requests);
}
