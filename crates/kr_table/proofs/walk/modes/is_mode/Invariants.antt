use Rattle.std.proofs.Common.{◌≡◌, map, drop, string_bytes}
use Rattle.kr_table.specs.DocumentFaults.{is_mode}
use Rattle.kr_table.proofs.walk.modes.is_mode.Given as goal

abbrev pub invariant-loop-mode : goal.invariant-loop-mode
invariant-loop-mode l = is_mode (map string_bytes l.modes) l.name ≡ is_mode (map string_bytes (drop l.mode-index l.modes)) l.name
