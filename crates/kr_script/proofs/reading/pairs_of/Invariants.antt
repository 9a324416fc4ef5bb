use Rattle.std.proofs.Common.{◌≡◌, ◌++◌, drop, None}
use Rattle.serde_json.specs.View.{items_view}
use Rattle.kr_script.specs.Faults.{opening_faults}
use Rattle.kr_script.specs.Reading.{pairs_of}
use Rattle.kr_script.proofs.reading.pairs_of.Given as goal

-- no fault so far, and the pairs so far
abbrev pub invariant-loop-i : goal.invariant-loop-i
invariant-loop-i l = record {
  faults : opening_faults 0 None (items_view l.list) ≡ opening_faults l.i l.before (items_view (drop l.i l.list));
  pairs : pairs_of (items_view l.list) ≡ l.pairs.items ++ pairs_of (items_view (drop l.i l.list));
}
