use Rattle.std.proofs.Common.{◌≡◌, take}
use Rattle.std.specs.Str.Parse.{AllDigits, digits_value}
use Rattle.kr_script.proofs.plain.decimal.Given as goal

-- the bytes so far are digits, and n is the number that they write
abbrev pub invariant-loop-byte : goal.invariant-loop-byte
invariant-loop-byte l = record { digits : AllDigits 10 (take l.byte-index l.bytes); number : l.n ≡ digits_value 10 (take l.byte-index l.bytes) }
