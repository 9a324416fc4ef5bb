use Rattle.std.proofs.Common.{◌≡◌, ◌++◌, map, drop, string_bytes}
use Rattle.toml.specs.View.{view}
use Rattle.kr_table.specs.Reading.{stands, square}
use Rattle.kr_table.proofs.making.compatible_of.Given as goal

abbrev pub invariant-loop-requested : goal.invariant-loop-requested
invariant-loop-requested l = l.compatible.items ++ square (stands (view l.entries)) (map string_bytes (drop l.requested-index l.modes)) (map string_bytes l.modes) ≡ square (stands (view l.entries)) (map string_bytes l.modes) (map string_bytes l.modes)
