use Rattle.std.proofs.Common.{◌≡◌, ◌++◌, map, drop, string_bytes}
use Rattle.toml.specs.Data.{string}
use Rattle.toml.specs.View.{view}
use Rattle.kr_table.specs.Writing.{chosen}
use Rattle.kr_table.proofs.writing.entries.chosen.Given as goal

abbrev pub invariant-loop-i : goal.invariant-loop-i
invariant-loop-i l = map view l.texts.items ++ map string (chosen (map string_bytes (drop l.i l.names)) (drop l.i l.line)) ≡ map string (chosen (map string_bytes l.names) l.line)
