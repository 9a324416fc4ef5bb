use Rattle.std.proofs.Common.{◌≡◌, ◌++◌, drop}
use Rattle.kr_ghost_threads.specs.Histories.{steps_of}
use Rattle.kr_ghost_threads.proofs.steps.steps_of.Given as goal

-- the steps so far, and those of the rest, are all
abbrev pub invariant-loop-made : goal.invariant-loop-made
invariant-loop-made l = l.steps.items ++ steps_of (drop l.made-index l.history) ≡ steps_of l.history
