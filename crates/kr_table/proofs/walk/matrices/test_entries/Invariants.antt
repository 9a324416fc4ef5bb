use Rattle.std.proofs.Common.{◌≡◌, map, string_bytes}
use Rattle.toml.specs.View.{members_view}
use Rattle.kr_table.specs.DocumentFaults.{entry_faults}
use Rattle.kr_table.proofs.walk.matrices.test_entries.Given as goal

abbrev pub invariant-loop-name : goal.invariant-loop-name
invariant-loop-name l = entry_faults (map string_bytes l.fn.modes) (members_view l.fn.entries.entries) ≡ entry_faults (map string_bytes l.fn.modes) (members_view l.name-iterator)
