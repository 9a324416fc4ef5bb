use Rattle.std.proofs.Common.{◌≡◌, ◌++◌, drop}
use Rattle.kr_ghost_threads.specs.Histories.{steps_in}
use Rattle.kr_ghost_threads.proofs.steps.steps_in.Given as goal

-- the steps so far, and those of the rest, are all
abbrev pub invariant-loop-next : goal.invariant-loop-next
invariant-loop-next l = l.steps.items ++ steps_in (drop l.next-index l.moves) ≡ steps_in l.moves
