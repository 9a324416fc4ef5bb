use Rattle.std.proofs.Common.{◌≡◌, take}
use Rattle.kr_trace_follow.specs.Deviates.{misnamed}
use Rattle.kr_trace_follow.proofs.kinds.misnamed.Given as goal

-- those so far that are neither blockers nor wait ahead are in the list
abbrev pub invariant-loop-i : goal.invariant-loop-i
invariant-loop-i l = record {
  so_far : l.list.items ≡ misnamed (take l.i l.named) l.blockers l.ahead;
}
