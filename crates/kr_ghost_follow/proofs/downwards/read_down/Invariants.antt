use Rattle.std.proofs.Common.{◌≡◌, drop}
use Rattle.kr_ghost_follow.specs.Points.{falling, read_down, unread}
use Rattle.kr_ghost_follow.specs.Tries.{moment, tried_so}
use Rattle.kr_ghost_follow.proofs.downwards.read_down.Given as goal

-- What is left ends with the last step of all.
abbrev pub invariant-loop-i : goal.invariant-loop-i
invariant-loop-i g l = record {
  protocol : l.stepper.protocol ≡ l.fn.stepper.protocol;
  last : read_down (g.P.GhostProtocol.ghosts l.fn.stepper.protocol) l.queue l.line.event.txn (drop l.i l.parts.items) (tried_so l.last (moment l.stepper.state l.scans.items))
      ≡ read_down (g.P.GhostProtocol.ghosts l.fn.stepper.protocol) l.queue l.line.event.txn (falling l.fn.stepper.state l.fn.op) (unread (moment l.fn.stepper.state l.fn.scans.items) l.fn.op);
}
