use Rattle.std.proofs.Common.{◌≡◌, inl, inr, rules}
use Rattle.kr_cli.specs.Lines.{told_line}
use Rattle.kr_cli_trace.specs.Program.{TellsOnePart, TellsTrace, no_part_text}
use Rattle.kr_trace_parts.proofs.Stopping.{stops_more, word_stops}
use Rattle.kr_cli_trace.proofs.program.read_one.Goals as goal

pub returns-in_err-parts-clause-err : goal.returns-in_err-parts-clause-err
returns-in_err-parts-clause-err g c =
    let printed = g.A.Asks.is_printed c.args.asks.now in
    let may_name = g.F.Traces.may_name c.args.files.now in
    let taken = g.W.Sink.taken in
    let ends = stops_more (TellsTrace printed may_name c.args.word.now (taken c.args.out.now) (taken c.read_named.new.out)) (TellsOnePart printed may_name c.args.word.now c.args.number (taken c.args.out.now) (taken c.read_named.new.out)) _
    (λ line told. inl told) c.in_err-parts.ensures.err in
    search rules

pub returns-then-parts-number-clause-err : goal.returns-then-parts-number-clause-err
returns-then-parts-number-clause-err g c =
    let printed = g.A.Asks.is_printed c.args.asks.now in
    let may_name = g.F.Traces.may_name c.args.files.now in
    let taken = g.W.Sink.taken in
    word_stops (λ line. line ≡ told_line c.args.word.now (no_part_text c.args.number)) (TellsOnePart printed may_name c.args.word.now c.args.number (taken c.args.out.now) (taken c.read_named.new.out)) c.no_part.result
    (λ line said. inr (c.in_ok-parts.parts, c.in_ok-parts.is_well, c.in_ok-parts.ensures.holds, c.if-parts-number.true, said)) c.no_part.ensures.line
