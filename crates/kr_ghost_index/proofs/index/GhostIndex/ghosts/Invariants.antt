use Rattle.std.proofs.Common.{◌≡◌, ◌++◌}
use Rattle.kr_ghost_index.specs.Slots.{ghosts_of}
use Rattle.kr_ghost_index.proofs.index.GhostIndex.ghosts.Given as goal

-- the ghosts so far, then those of what is left, are all
abbrev pub invariant-loop-key : goal.invariant-loop-key
invariant-loop-key l = l.list.items ++ ghosts_of l.key-iterator ≡ ghosts_of l.initial.key-iterator
