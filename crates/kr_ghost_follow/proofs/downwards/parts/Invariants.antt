use Rattle.std.proofs.Common.{◌≡◌, ◌-◌, ◌++◌}
use Rattle.kr_ghost_follow.specs.Points.{parts}
use Rattle.kr_ghost_follow.proofs.downwards.parts.Given as goal

-- The parts so far, and those of what is left.
abbrev pub invariant-loop : goal.invariant-loop
invariant-loop g l = l.list.items ++ parts l.stepper.state ((l.hi - l.lo) - l.counter) l.from l.hi ≡ parts l.stepper.state (l.hi - l.lo) l.lo l.hi
