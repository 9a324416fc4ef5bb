use Rattle.std.proofs.Common.{◌≡◌, ◌++◌}
use Rattle.kr_model.specs.Map.{IsMap, pairs_between}
use Rattle.kr_judge.proofs.Wholes.{up_to}
use Rattle.kr_judge.proofs.whole.between.Given as goal

-- The pairs so far, then those that are left, are all.
abbrev pub invariant-loop-key : goal.invariant-loop-key
invariant-loop-key l = record {
  is_map : IsMap l.key-iterator;
  pairs : l.list.items ++ up_to l.hi l.key-iterator ≡ pairs_between l.map.entries l.lo l.hi;
}
