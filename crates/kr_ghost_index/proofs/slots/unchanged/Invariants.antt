use Rattle.std.proofs.Common.{◌≡◌, ◌++◌, drop}
use Rattle.kr_ghost_index.specs.Slots.{unchanged}
use Rattle.kr_ghost_index.proofs.slots.unchanged.Given as goal

-- the entries so far, then those of the pairs that are left, are all
abbrev pub invariant-loop-key : goal.invariant-loop-key
invariant-loop-key l = l.entries.items ++ unchanged (drop l.key-index l.pairs) ≡ unchanged l.pairs
