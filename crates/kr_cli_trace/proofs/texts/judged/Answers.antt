use Rattle.std.proofs.Common.{map}
use Rattle.kr_cli_trace.specs.OnePart.{line_of}
use Rattle.kr_trace_parts.specs.Tales.{committed_in}
use Rattle.kr_cli_trace.proofs.texts.judged.Goals as goal

pub returns : goal.returns
returns c =
    let opening = c.args.opening.now in
    let are = c.in_ok-take_all.ensures opening c.in_ok-judging.ensures in
    c.verdict_of.ensures opening (committed_in (map line_of c.args.steps.items)) are.first
