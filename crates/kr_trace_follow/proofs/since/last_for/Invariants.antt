use Rattle.std.proofs.Common.{◌≡◌, take}
use Rattle.kr_trace_follow.specs.Since.{last_or}
use Rattle.kr_trace_follow.proofs.since.last_for.Given as goal

-- the last of the notes so far
abbrev pub invariant-loop-i : goal.invariant-loop-i
invariant-loop-i l = record {
  so_far : l.line ≡ last_or 0 (take l.i l.notes) l.name;
}
