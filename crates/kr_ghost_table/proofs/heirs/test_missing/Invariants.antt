use Rattle.std.proofs.Common.{◌≡◌, map, drop, string_bytes}
use Rattle.toml.specs.View.{view}
use Rattle.kr_ghost_table.specs.DocumentFaults.{missing_faults}
use Rattle.kr_ghost_table.proofs.heirs.test_missing.Given as goal

abbrev pub invariant-loop-mode : goal.invariant-loop-mode
invariant-loop-mode l = missing_faults (map string_bytes l.modes) (view l.purge) ≡ missing_faults (map string_bytes (drop l.mode-index l.modes)) (view l.purge)
