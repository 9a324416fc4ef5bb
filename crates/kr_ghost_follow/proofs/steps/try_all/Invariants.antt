use Rattle.std.proofs.Common.{◌≡◌, ◌-◌}
use Rattle.kr_ghost_follow.specs.Points.{gone_on, tried}
use Rattle.kr_ghost_follow.specs.Tries.{line_of, moment, tried_so}
use Rattle.kr_ghost_follow.proofs.steps.try_all.Given as goal

-- What is left ends with the last step of all.
abbrev pub invariant-loop : goal.invariant-loop
invariant-loop g l = record {
  protocol : l.stepper.protocol ≡ l.fn.stepper.protocol;
  last : gone_on (g.P.GhostProtocol.ghosts l.fn.stepper.protocol) (line_of l.line) l.queue (l.more - l.counter) (tried_so l.last (moment l.stepper.state l.scans.items))
      ≡ gone_on (g.P.GhostProtocol.ghosts l.fn.stepper.protocol) (line_of l.line) l.queue l.more (tried (g.P.GhostProtocol.ghosts l.fn.stepper.protocol) l.queue l.line.event.txn (moment l.fn.stepper.state l.fn.scans.items) l.fn.first);
}
