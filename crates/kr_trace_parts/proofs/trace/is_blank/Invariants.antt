-- the line is one of blanks where the rest of it is
use Rattle.std.specs.Prelude.{◌≡◌, drop}
use Rattle.kr_trace_parts.specs.Lines.{is_blank}
use Rattle.kr_trace_parts.proofs.trace.is_blank.Given as goal

abbrev pub invariant-loop-i : goal.invariant-loop-i
invariant-loop-i l = is_blank (drop l.i l.line) ≡ is_blank l.line
