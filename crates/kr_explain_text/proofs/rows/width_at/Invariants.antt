-- the greatest length so far, and of the rows that are left, is that of all
use Rattle.std.proofs.Common.{◌≡◌, drop}
use Rattle.kr_explain_text.specs.Steps.{rows_of, width_at}
use Rattle.kr_explain_text.proofs.Rowed.{widest_of}
use Rattle.kr_explain_text.proofs.rows.width_at.Given as goal

abbrev pub invariant-loop-at : goal.invariant-loop-at
invariant-loop-at l = widest_of l.column l.widest (rows_of (drop l.at l.rows)) ≡ width_at (rows_of l.rows) l.column
