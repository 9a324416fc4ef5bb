use Rattle.std.proofs.Common.{◌≡◌, map, drop, string_bytes}
use Rattle.toml.specs.View.{items_view}
use Rattle.kr_table.specs.DocumentFaults.{all_own}
use Rattle.kr_table.proofs.walk.rules.are_own.Given as goal

abbrev pub invariant-loop-item : goal.invariant-loop-item
invariant-loop-item l = all_own (map string_bytes l.modes) (items_view l.list) ≡ all_own (map string_bytes l.modes) (items_view (drop l.item-index l.list))
