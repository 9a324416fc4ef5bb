use Rattle.std.proofs.Common.{◌≡◌, drop}
use Rattle.kr_trace_follow.specs.Scans.{noted_of}
use Rattle.kr_trace_follow.proofs.scans.noted_of.Given as goal

-- what is left has what is noted
abbrev pub invariant-loop-i : goal.invariant-loop-i
invariant-loop-i l = record {
  left : noted_of (drop l.i l.scans) l.txn ≡ noted_of l.scans l.txn;
}
