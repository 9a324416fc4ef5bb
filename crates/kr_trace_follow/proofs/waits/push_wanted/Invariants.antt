use Rattle.std.proofs.Common.{◌≡◌, ◌++◌, take, map}
use Rattle.kr_trace_follow.specs.Conflicts.{wanted}
use Rattle.kr_trace_follow.proofs.waits.push_wanted.Given as goal

-- what is waited for by the requests so far was added
abbrev pub invariant-loop-i : goal.invariant-loop-i
invariant-loop-i l = record {
  added : l.waiting.items ≡ l.fn.waiting.items ++ map wanted (take l.i l.requests);
}
