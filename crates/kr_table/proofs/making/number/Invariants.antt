use Rattle.std.proofs.Common.{◌≡◌, ◌+◌, map, drop, string_bytes}
use Rattle.kr_table.specs.Reading.{number, number_from}
use Rattle.kr_table.proofs.making.number.Given as goal

abbrev pub invariant-loop-i : goal.invariant-loop-i
invariant-loop-i l = number (map string_bytes l.modes) l.name ≡ number_from (l.i + 1) (map string_bytes (drop l.i l.modes)) l.name
