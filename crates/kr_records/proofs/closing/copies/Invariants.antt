use Rattle.std.proofs.Common.{◌≡◌, take}
use Rattle.kr_records.proofs.closing.copies.Given as goal

-- there are copies so far
abbrev pub invariant-loop-place : goal.invariant-loop-place
invariant-loop-place g l = l.entries.items ≡ take l.place l.view
