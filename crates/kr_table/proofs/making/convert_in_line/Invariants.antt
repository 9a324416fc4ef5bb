use Rattle.std.proofs.Common.{◌≡◌, ◌++◌, map, drop, string_bytes}
use Rattle.toml.specs.View.{view}
use Rattle.kr_table.specs.Reading.{converts}
use Rattle.kr_table.proofs.making.convert_in_line.Given as goal

abbrev pub invariant-loop-requested : goal.invariant-loop-requested
invariant-loop-requested l = l.line.items ++ map (converts (map string_bytes l.modes) (view l.entries) l.held) (map string_bytes (drop l.requested-index l.modes)) ≡ l.initial.line.items ++ map (converts (map string_bytes l.modes) (view l.entries) l.held) (map string_bytes l.modes)
