-- what was written, and what the rows that are left will write, is all of them
use Rattle.std.proofs.Common.{◌≡◌, ◌++◌, drop, flat_map, string_bytes}
use Rattle.kr_explain_text.specs.Steps.{row_text, rows_of}
use Rattle.kr_explain_text.proofs.rows.write_in.Given as goal

abbrev pub invariant-loop-at : goal.invariant-loop-at
invariant-loop-at l = string_bytes l.out ++ flat_map (row_text l.widths) (rows_of (drop l.at l.rows)) ≡ string_bytes l.fn.out ++ flat_map (row_text l.widths) (rows_of l.rows)
