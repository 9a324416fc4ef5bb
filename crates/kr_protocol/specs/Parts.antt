-- The parts of a range-key mode as the numbers that the table speaks of.
use Rattle.std.specs.Prelude.{ℕ}
use Rattle.kr_protocol.specs.declared.parts.RangePart.{RangePart}
use Rattle.kr_protocol.specs.declared.parts.RangePart.TheVariants as range
use Rattle.kr_protocol.specs.declared.parts.KeyPart.{KeyPart}
use Rattle.kr_protocol.specs.declared.parts.KeyPart.TheVariants as key

-- the number of a range part
abbrev pub range_number : RangePart → ℕ
range_number range.N = 0
range_number range.S = 1
range_number range.I = 2
range_number range.X = 3

-- the number of a key part
abbrev pub key_number : KeyPart → ℕ
key_number key.N = 0
key_number key.S = 1
key_number key.X = 3
