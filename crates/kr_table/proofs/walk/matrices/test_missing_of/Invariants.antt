use Rattle.std.proofs.Common.{◌≡◌, map, drop, string_bytes}
use Rattle.toml.specs.View.{view}
use Rattle.kr_table.specs.DocumentFaults.{missing_of}
use Rattle.kr_table.proofs.walk.matrices.test_missing_of.Given as goal

abbrev pub invariant-loop-requested : goal.invariant-loop-requested
invariant-loop-requested l = missing_of l.held (map string_bytes l.modes) (view l.entries) ≡ missing_of l.held (map string_bytes (drop l.requested-index l.modes)) (view l.entries)
