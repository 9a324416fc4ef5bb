use Rattle.std.proofs.Common.{◌≡◌, None, drop}
use Rattle.kr_serial.proofs.Replayed.{IsRest}
use Rattle.kr_serial.proofs.logged.log_each.Given as goal

-- the machine is at rest with its protocol, and what is left of the run gives what is left to answer
abbrev pub invariant-loop-event : goal.invariant-loop-event
invariant-loop-event g l = record {
  at_rest : l.stepper.pending ≡ None;
  protocol : l.stepper.protocol ≡ l.fn.stepper.protocol;
  rest : IsRest (g.P.Protocol.table l.fn.stepper.protocol) l.fn.stepper.state l.fn.log.log l.events l.stepper.state l.log.log (drop l.event-index l.events) l.replies.items;
}
