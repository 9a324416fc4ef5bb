use Rattle.std.proofs.Common.{◌≡◌, ◌++◌}
use Rattle.kr_index.specs.Slots.{pairs_of}
use Rattle.kr_index.proofs.tree.TreeOrdered.copy.Given as goal

-- the pairs so far, then those of what is left, are all
abbrev pub invariant-loop-key : goal.invariant-loop-key
invariant-loop-key l = l.list.items ++ pairs_of l.key-iterator ≡ pairs_of l.initial.key-iterator
