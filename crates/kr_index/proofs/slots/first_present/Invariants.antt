use Rattle.std.proofs.Common.{◌≡◌, drop}
use Rattle.kr_index.specs.Slots.{pairs_of, least}
use Rattle.kr_index.proofs.slots.first_present.Given as goal

-- no key so far has a value
abbrev pub invariant-loop-key : goal.invariant-loop-key
invariant-loop-key l = least (pairs_of (drop l.key-index l.entries)) ≡ least (pairs_of l.entries)
