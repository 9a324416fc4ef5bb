use Rattle.std.proofs.Common.{◌≡◌, drop}
use Rattle.toml.specs.View.{items_view}
use Rattle.kr_table.specs.DocumentFaults.{is_mode}
use Rattle.kr_table.specs.Members.{names_of}
use Rattle.kr_table.proofs.making.contains.Given as goal

abbrev pub invariant-loop-item : goal.invariant-loop-item
invariant-loop-item l = is_mode (names_of (items_view l.list)) l.name ≡ is_mode (names_of (items_view (drop l.item-index l.list))) l.name
