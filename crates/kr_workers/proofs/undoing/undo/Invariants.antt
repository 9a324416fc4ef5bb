use Rattle.std.proofs.Common.{◌≡◌, ◌≤◌, ◌++◌, ℕ, length, drop}
use Rattle.kr_workers.specs.Follows.{ops_of}
use Rattle.kr_workers.specs.Dealt.{hand_in}
use Rattle.kr_workers.proofs.undoing.undo.Given as goal

-- The events from the place on are taken.
abbrev pub invariant-loop-end : goal.invariant-loop-end
invariant-loop-end l = (l.end ≤ length l.events) × ((t : ℕ) → hand_in l.fn.hands t ≡ hand_in l.hands t ++ ops_of t (drop l.end l.events))

-- The events that are left.
abbrev pub decreases-loop-end : goal.decreases-loop-end
decreases-loop-end l = l.end
