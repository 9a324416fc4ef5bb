use Rattle.std.proofs.Common.{◌≡◌, map, string_bytes}
use Rattle.toml.specs.View.{members_view}
use Rattle.kr_table.specs.DocumentFaults.{held_faults}
use Rattle.kr_table.proofs.walk.matrices.test_held.Given as goal

abbrev pub invariant-loop-held : goal.invariant-loop-held
invariant-loop-held l = held_faults (map string_bytes l.fn.modes) (members_view l.fn.entries.entries) ≡ held_faults (map string_bytes l.fn.modes) (members_view l.held-iterator)
