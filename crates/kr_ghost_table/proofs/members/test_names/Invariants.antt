use Rattle.std.proofs.Common.{◌≡◌}
use Rattle.toml.specs.View.{members_view}
use Rattle.kr_ghost_table.specs.DocumentFaults.{name_faults}
use Rattle.kr_ghost_table.proofs.members.test_names.Given as goal

abbrev pub invariant-loop-name : goal.invariant-loop-name
invariant-loop-name l = name_faults (members_view l.fn.members.entries) ≡ name_faults (members_view l.name-iterator)
