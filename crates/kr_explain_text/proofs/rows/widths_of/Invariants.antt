-- the widths of the columns so far
use Rattle.std.proofs.Common.{◌≡◌}
use Rattle.kr_explain_text.specs.Steps.{rows_of, widths_of}
use Rattle.kr_explain_text.proofs.rows.widths_of.Given as goal

abbrev pub invariant-loop-column : goal.invariant-loop-column
invariant-loop-column l = l.widths.items ≡ widths_of l.column (rows_of l.rows)
