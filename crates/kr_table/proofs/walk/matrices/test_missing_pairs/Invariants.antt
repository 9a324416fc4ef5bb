use Rattle.std.proofs.Common.{◌≡◌, map, drop, string_bytes}
use Rattle.toml.specs.View.{view}
use Rattle.kr_table.specs.DocumentFaults.{missing_pairs}
use Rattle.kr_table.proofs.walk.matrices.test_missing_pairs.Given as goal

abbrev pub invariant-loop-held : goal.invariant-loop-held
invariant-loop-held l = missing_pairs (map string_bytes l.modes) (map string_bytes l.modes) (view l.entries) ≡ missing_pairs (map string_bytes (drop l.held-index l.modes)) (map string_bytes l.modes) (view l.entries)
