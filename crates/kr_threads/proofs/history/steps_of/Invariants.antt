use Rattle.std.proofs.Common.{◌≡◌, map, take}
use Rattle.kr_threads.proofs.history.steps_of.Given as goal

-- the steps of the entries so far
abbrev pub invariant-loop-entry : goal.invariant-loop-entry
invariant-loop-entry l = l.steps.items ≡ map (λ e. e.event) (take l.entry-index l.entries)
