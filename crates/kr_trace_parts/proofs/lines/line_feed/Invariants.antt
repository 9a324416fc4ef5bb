-- the bytes so far have no line feed
use Rattle.kr_trace_parts.specs.Lines.{HasNoLineFeed}
use Rattle.kr_trace_parts.proofs.lines.line_feed.Given as goal

abbrev pub invariant-loop-i : goal.invariant-loop-i
invariant-loop-i l = HasNoLineFeed l.i l.bytes
