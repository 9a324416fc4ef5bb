use Rattle.std.proofs.Common.{◌≡◌, ◌≤◌, length, drop}
use Rattle.kr_model.specs.Map.{IsMap, pairs_between}
use Rattle.kr_model.specs.Difference.{same_pairs}
use Rattle.kr_judge.proofs.Wholes.{up_to}
use Rattle.kr_judge.proofs.whole.are_between.Given as goal

-- What is left of the rows compares with what is left of the pairs as the whole does.
abbrev pub invariant-loop-key : goal.invariant-loop-key
invariant-loop-key l = record {
  within : l.i ≤ length l.rows;
  is_map : IsMap l.key-iterator;
  same : same_pairs (drop l.i l.rows) (up_to l.hi l.key-iterator) ≡ same_pairs l.rows (pairs_between l.map.entries l.lo l.hi);
}
