-- the lines so far were read, and what may be given now may be given behind them
use Rattle.std.specs.Prelude.{◌≡◌, ℕ, suc, List, ◌++◌, length}
use Rattle.kr_trace_parts.specs.Reading.{IsRead}
use Rattle.kr_trace_parts.proofs.trace.read_on.Given as goal

abbrev pub invariant-loop-number : goal.invariant-loop-number
invariant-loop-number g l = record {
  read : (front : List (List ℕ)) × ((l.number ≡ suc (length front))
      × (((rest : List (List ℕ)) → g.L.Lines.may_give l.lines rest → g.L.Lines.may_give l.fn.lines (front ++ rest))
      × IsRead g.A.Part.Part.stands_for g.A.Part.Part.asked (g.A.Asks.is_printed l.asks) front (g.W.Sink.taken l.fn.out) (g.W.Sink.taken l.out) l.reading.ended l.reading.is_well l.reading.lines l.reading.part));
  count : g.W.Sink.failures l.out ≡ g.W.Sink.failures l.fn.out;
}
