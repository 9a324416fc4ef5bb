use Rattle.std.specs.Prelude.{refl}
use Rattle.std.proofs.Common.{arith}
use Rattle.kr_trace_parts.proofs.PrintedLaws.{none_written}
use Rattle.kr_trace_parts.proofs.trace.read_trace.Goals as goal

pub read_on-requires : goal.read_on-requires
read_on-requires g c =
    record {
      faultless = tt;
      written = none_written (g.A.Asks.is_printed c.args.asks.now) (g.W.Sink.taken c.args.out.now);
      count = refl;
      few = omega arith;
      in_progress = tt;
      is_asked = tt;
      keeps = c.new.ensures;
    }
