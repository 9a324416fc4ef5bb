use Rattle.std.proofs.Common.{◌≡◌, map, string_bytes}
use Rattle.toml.specs.View.{members_view}
use Rattle.kr_ghost_table.specs.DocumentFaults.{entry_faults}
use Rattle.kr_ghost_table.proofs.heirs.test_entries.Given as goal

abbrev pub invariant-loop-mode : goal.invariant-loop-mode
invariant-loop-mode l = entry_faults (map string_bytes l.fn.modes) (members_view l.fn.entries.entries) ≡ entry_faults (map string_bytes l.fn.modes) (members_view l.mode-iterator)
