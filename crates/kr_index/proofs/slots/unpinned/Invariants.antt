use Rattle.std.proofs.Common.{◌≡◌, ◌++◌, drop}
use Rattle.kr_index.specs.Slots.{unpinned}
use Rattle.kr_index.proofs.slots.unpinned.Given as goal

-- the entries so far, then those of the pairs that are left, are all
abbrev pub invariant-loop-key : goal.invariant-loop-key
invariant-loop-key l = l.entries.items ++ unpinned (drop l.key-index l.pairs) ≡ unpinned l.pairs
