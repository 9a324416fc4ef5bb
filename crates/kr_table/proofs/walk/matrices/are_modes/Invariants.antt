use Rattle.std.proofs.Common.{◌≡◌, map, drop, string_bytes}
use Rattle.toml.specs.View.{items_view}
use Rattle.kr_table.specs.DocumentFaults.{all_modes}
use Rattle.kr_table.proofs.walk.matrices.are_modes.Given as goal

abbrev pub invariant-loop-item : goal.invariant-loop-item
invariant-loop-item l = all_modes (map string_bytes l.modes) (items_view l.list) ≡ all_modes (map string_bytes l.modes) (items_view (drop l.item-index l.list))
