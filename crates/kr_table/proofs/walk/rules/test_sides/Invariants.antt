use Rattle.std.proofs.Common.{◌≡◌, map, string_bytes}
use Rattle.toml.specs.View.{members_view}
use Rattle.kr_table.specs.DocumentFaults.{side_faults}
use Rattle.kr_table.proofs.walk.rules.test_sides.Given as goal

abbrev pub invariant-loop-side : goal.invariant-loop-side
invariant-loop-side l = side_faults l.fn.rows (map string_bytes l.fn.modes) l.fn.row (members_view l.fn.sides.entries) ≡ side_faults l.fn.rows (map string_bytes l.fn.modes) l.fn.row (members_view l.side-iterator)
