use Rattle.std.proofs.Common.{◌≡◌, ◌++◌, map, drop, string_bytes}
use Rattle.toml.specs.View.{view}
use Rattle.kr_table.specs.Reading.{stands}
use Rattle.kr_table.proofs.making.stand_in_line.Given as goal

abbrev pub invariant-loop-held : goal.invariant-loop-held
invariant-loop-held l = l.line.items ++ map (stands (view l.entries) l.requested) (map string_bytes (drop l.held-index l.modes)) ≡ l.initial.line.items ++ map (stands (view l.entries) l.requested) (map string_bytes l.modes)
