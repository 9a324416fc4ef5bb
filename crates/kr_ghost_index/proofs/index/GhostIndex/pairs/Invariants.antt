use Rattle.std.proofs.Common.{◌≡◌, ◌++◌}
use Rattle.kr_ghost_index.specs.Slots.{map_of}
use Rattle.kr_ghost_index.proofs.index.GhostIndex.pairs.Given as goal

-- the pairs so far, then those of what is left, are all
abbrev pub invariant-loop-key : goal.invariant-loop-key
invariant-loop-key l = l.list.items ++ map_of l.key-iterator ≡ map_of l.initial.key-iterator
