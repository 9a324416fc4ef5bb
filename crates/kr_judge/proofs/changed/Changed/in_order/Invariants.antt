use Rattle.std.proofs.Common.{◌≡◌}
use Rattle.kr_model.specs.Map.{IsMap}
use Rattle.kr_judge.specs.Changed.{changed_map}
use Rattle.kr_judge.proofs.changed.Changed.in_order.Given as goal

-- The map so far, with the changes that are left, is the whole.
abbrev pub invariant-loop-key : goal.invariant-loop-key
invariant-loop-key l = record {
  is_map : IsMap l.map.entries;
  whole : changed_map l.map.entries l.key-iterator ≡ l.self;
}
