-- what was written, and what the cells that are left will write, is the whole row
use Rattle.std.proofs.Common.{◌≡◌, ◌++◌, drop, string_bytes}
use Rattle.kr_explain_text.specs.Steps.{cells_from, row_text, texts}
use Rattle.kr_explain_text.proofs.rows.write_row.Given as goal

abbrev pub invariant-loop-at : goal.invariant-loop-at
invariant-loop-at l = string_bytes l.out ++ cells_from l.widths l.at (texts (drop l.at l.cells)) ≡ string_bytes l.fn.out ++ row_text l.widths (texts l.cells)
