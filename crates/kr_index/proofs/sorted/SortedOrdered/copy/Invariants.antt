use Rattle.std.proofs.Common.{◌≡◌, ◌++◌, drop}
use Rattle.kr_index.specs.Slots.{pairs_of}
use Rattle.kr_index.proofs.sorted.SortedOrdered.copy.Given as goal

-- the pairs so far, then those of what is left, are all
abbrev pub invariant-loop-key : goal.invariant-loop-key
invariant-loop-key l = l.list.items ++ pairs_of (drop l.key-index l.key-items) ≡ pairs_of l.key-items
