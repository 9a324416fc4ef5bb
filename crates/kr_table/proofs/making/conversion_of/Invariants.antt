use Rattle.std.proofs.Common.{◌≡◌, ◌++◌, map, drop, string_bytes}
use Rattle.toml.specs.View.{view}
use Rattle.kr_table.specs.Reading.{converts, square}
use Rattle.kr_table.proofs.making.conversion_of.Given as goal

abbrev pub invariant-loop-held : goal.invariant-loop-held
invariant-loop-held l = l.conversion.items ++ square (converts (map string_bytes l.modes) (view l.entries)) (map string_bytes (drop l.held-index l.modes)) (map string_bytes l.modes) ≡ square (converts (map string_bytes l.modes) (view l.entries)) (map string_bytes l.modes) (map string_bytes l.modes)
