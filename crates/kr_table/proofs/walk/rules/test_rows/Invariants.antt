use Rattle.std.proofs.Common.{◌≡◌, map, string_bytes}
use Rattle.toml.specs.View.{members_view}
use Rattle.kr_table.specs.DocumentFaults.{row_faults}
use Rattle.kr_table.proofs.walk.rules.test_rows.Given as goal

abbrev pub invariant-loop-row : goal.invariant-loop-row
invariant-loop-row l = row_faults l.fn.rows (map string_bytes l.fn.modes) (members_view l.fn.rules.entries) ≡ row_faults l.fn.rows (map string_bytes l.fn.modes) (members_view l.row-iterator)
