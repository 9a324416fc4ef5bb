use Rattle.std.proofs.Common.{◌≡◌, ◌++◌, map, length, Ok}
use Rattle.std.specs.Vec.Iter.{into_iter_items, into_iter_len}
use Rattle.kr_batch.proofs.named.verdicts_or_first.Given as goal

-- All so far were judged, and the rest is still to come.
abbrev pub invariant-loop-result : goal.invariant-loop-result
invariant-loop-result l = record {
  judged : l.fn.judged.items ≡ map Ok l.verdicts.items ++ into_iter_items l.result-iterator;
  count : into_iter_len l.result-iterator ≡ length (into_iter_items l.result-iterator);
}
