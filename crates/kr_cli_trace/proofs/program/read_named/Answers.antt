use Rattle.kr_cli_trace.proofs.HeldLaws.{trace_held, trace_stopped}
use Rattle.kr_cli_trace.proofs.program.read_named.Goals as goal

pub returns-clause-holds : goal.returns-clause-holds
returns-clause-holds g c =
    let taken = g.W.Sink.taken in
    trace_held (g.A.Asks.is_printed c.args.asks.now) (g.F.Traces.may_name c.args.files.now) (g.F.Lines.Lines.may_give c.in-Ok.lines) c.args.word.now (taken c.args.out.now) (taken c.read_trace.new.out) c.read_trace.result c.in-Ok.ensures.found c.read_trace.ensures.through

pub returns-clause-err : goal.returns-clause-err
returns-clause-err g c =
    let taken = g.W.Sink.taken in
    trace_stopped (g.A.Asks.is_printed c.args.asks.now) (g.F.Traces.may_name c.args.files.now) (g.F.Lines.Lines.may_give c.in-Ok.lines) c.args.word.now (taken c.args.out.now) (taken c.read_trace.new.out) c.read_trace.result c.in-Ok.ensures.found c.read_trace.ensures.err
