use Rattle.std.proofs.Common.{◌≡◌, take}
use Rattle.std.specs.List.{flat_map}
use Rattle.kr_trace_follow.specs.Conflicts.{conflicts_with}
use Rattle.kr_trace_follow.specs.Since.{last_noted}
use Rattle.kr_trace_follow.proofs.conflict.conflicts_with_all.Given as goal

-- the locks that conflict with the requests so far are in the list
abbrev pub invariant-loop-i : goal.invariant-loop-i
invariant-loop-i g l = record {
  so_far : l.list.items ≡ flat_map (conflicts_with (g.P.Protocol.table l.protocol) (last_noted l.notes) l.locks) (take l.i l.requests);
}
