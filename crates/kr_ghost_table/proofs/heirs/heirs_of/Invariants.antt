use Rattle.std.proofs.Common.{◌≡◌, ◌++◌, map, drop, string_bytes}
use Rattle.toml.specs.View.{view}
use Rattle.kr_ghost_table.specs.Reading.{heir}
use Rattle.kr_ghost_table.proofs.heirs.heirs_of.Given as goal

abbrev pub invariant-loop-mode : goal.invariant-loop-mode
invariant-loop-mode l = l.heirs.items ++ map (heir (map string_bytes l.modes) (view l.purge)) (map string_bytes (drop l.mode-index l.modes)) ≡ map (heir (map string_bytes l.modes) (view l.purge)) (map string_bytes l.modes)
