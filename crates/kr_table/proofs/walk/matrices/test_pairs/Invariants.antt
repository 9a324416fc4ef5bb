use Rattle.std.proofs.Common.{◌≡◌, map, string_bytes}
use Rattle.toml.specs.View.{members_view}
use Rattle.kr_table.specs.DocumentFaults.{pair_faults}
use Rattle.kr_table.proofs.walk.matrices.test_pairs.Given as goal

abbrev pub invariant-loop-requested : goal.invariant-loop-requested
invariant-loop-requested l = pair_faults (map string_bytes l.fn.modes) l.fn.held (members_view l.fn.pairs.entries) ≡ pair_faults (map string_bytes l.fn.modes) l.fn.held (members_view l.requested-iterator)
