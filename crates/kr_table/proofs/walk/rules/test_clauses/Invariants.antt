use Rattle.std.proofs.Common.{◌≡◌, map, drop, string_bytes}
use Rattle.toml.specs.View.{items_view}
use Rattle.kr_table.specs.DocumentFaults.{clauses_faults}
use Rattle.kr_table.proofs.walk.rules.test_clauses.Given as goal

abbrev pub invariant-loop-i : goal.invariant-loop-i
invariant-loop-i l = clauses_faults l.rows (map string_bytes l.modes) l.row l.side 0 (items_view l.list) ≡ clauses_faults l.rows (map string_bytes l.modes) l.row l.side l.i (items_view (drop l.i l.list))
