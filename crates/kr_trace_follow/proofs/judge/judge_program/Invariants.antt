use Rattle.std.proofs.Common.{◌≡◌, suc, drop}
use Rattle.kr_model.specs.Map.{IsMap}
use Rattle.kr_trace_follow.specs.Given.{or_later, difference_in, map_after}
use Rattle.kr_trace_follow.proofs.judge.judge_program.Given as goal

-- The first difference so far, or else that of what is left, is the program's; and what is left leaves its map.
abbrev pub invariant-loop-i : goal.invariant-loop-i
invariant-loop-i l = record {
  is_map : IsMap l.map.entries;
  differs : or_later l.first (difference_in l.map.entries (suc l.i) (drop l.i l.program)) ≡ difference_in l.fn.map.entries 1 l.program;
  left : map_after l.map.entries (drop l.i l.program) ≡ map_after l.fn.map.entries l.program;
}
