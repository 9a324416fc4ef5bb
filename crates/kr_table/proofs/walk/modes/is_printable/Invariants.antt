use Rattle.std.proofs.Common.{◌≡◌, drop}
use Rattle.kr_table.specs.DocumentFaults.{is_printable}
use Rattle.kr_table.proofs.walk.modes.is_printable.Given as goal

abbrev pub invariant-loop-byte : goal.invariant-loop-byte
invariant-loop-byte l = is_printable l.name ≡ is_printable (drop l.byte-index l.name)
