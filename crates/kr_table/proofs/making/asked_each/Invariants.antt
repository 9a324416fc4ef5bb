use Rattle.std.proofs.Common.{◌≡◌, ◌++◌, map, drop, string_bytes}
use Rattle.toml.specs.View.{items_view}
use Rattle.kr_table.specs.Reading.{asked, asked_each}
use Rattle.kr_table.proofs.making.asked_each.Given as goal

abbrev pub invariant-loop-mode : goal.invariant-loop-mode
invariant-loop-mode l = l.requests.items ++ map (asked (map string_bytes l.modes) (items_view l.clauses)) (map string_bytes (drop l.mode-index l.modes)) ≡ asked_each (map string_bytes l.modes) (items_view l.clauses)
