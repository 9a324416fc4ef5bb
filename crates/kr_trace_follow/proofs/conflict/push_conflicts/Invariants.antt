use Rattle.std.proofs.Common.{◌≡◌, ◌++◌, take}
use Rattle.kr_trace_follow.specs.Conflicts.{conflicts_with}
use Rattle.kr_trace_follow.specs.Since.{last_noted}
use Rattle.kr_trace_follow.proofs.conflict.push_conflicts.Given as goal

-- those of the locks so far that conflict were added
abbrev pub invariant-loop-i : goal.invariant-loop-i
invariant-loop-i g l = record {
  added : l.list.items ≡ l.fn.list.items ++ conflicts_with (g.P.Protocol.table l.protocol) (last_noted l.notes) (take l.i l.locks) l.request;
}
