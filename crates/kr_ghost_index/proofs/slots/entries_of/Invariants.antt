use Rattle.std.proofs.Common.{◌≡◌, ◌++◌}
use Rattle.kr_ghost_index.proofs.slots.entries_of.Given as goal

-- the entries so far, then those that are left, are all
abbrev pub invariant-loop-key : goal.invariant-loop-key
invariant-loop-key l = l.entries.items ++ l.key-iterator ≡ l.initial.key-iterator
