-- the steps so far are judged, and the others are still to come
use Rattle.std.proofs.Common.{◌≡◌, ◌++◌, [], length, map}
use Rattle.std.specs.Vec.Iter.{into_iter_items, into_iter_len}
use Rattle.kr_model.specs.Map.{Map}
use Rattle.kr_trace_parts.specs.Judged.{AreJudged}
use Rattle.kr_cli_trace.specs.OnePart.{line_of}
use Rattle.kr_cli_trace.proofs.texts.take_all.Given as goal

abbrev pub invariant-loop-step : goal.invariant-loop-step
invariant-loop-step l = record {
  split : l.yielded ++ into_iter_items l.step-iterator ≡ into_iter_items l.initial.step-iterator;
  count : into_iter_len l.step-iterator ≡ length (into_iter_items l.step-iterator);
  judged : (opening : Map) → AreJudged opening [] l.fn.judging.tales l.fn.judging.judge.map l.fn.judging.found
      → AreJudged opening (map line_of l.yielded) l.judging.tales l.judging.judge.map l.judging.found;
}
