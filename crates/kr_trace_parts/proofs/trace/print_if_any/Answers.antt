use Rattle.std.specs.Prelude.{Option, String}
use Rattle.std.specs.Io.KnownBytes.{Appends}
use Rattle.std.proofs.Common.{Global, subst, sym}
use Rattle.kr_trace_parts.specs.Printed.{printed}
use Rattle.kr_trace_parts.proofs.PrintedLaws.{nothing_appended}
use Rattle.kr_trace_parts.proofs.trace.print_if_any.Goals as goal

pub returns-in-None-clause-ok : goal.returns-in-None-clause-ok
returns-in-None-clause-ok g c =
    let now = g.W.Sink.taken c.args.out.now in
    subst (λ (text : Option (String Global)). Appends now now (printed text)) (sym c.in-None.is) (nothing_appended now)
