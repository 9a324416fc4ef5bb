use Rattle.std.proofs.Common.{◌≡◌, drop, length, false}
use Rattle.kr_apart.specs.Flags.{part}
use Rattle.kr_apart.proofs.flags.part.Given as goal

-- What is left tells whether the replies part, and there is as much left of both.
abbrev pub invariant-loop-place : goal.invariant-loop-place
invariant-loop-place l = (part l.is_over (drop l.place l.one) (drop l.place l.other) ≡ part false l.one l.other) × (length l.one ≡ length l.other)
