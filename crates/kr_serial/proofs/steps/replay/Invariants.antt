use Rattle.std.proofs.Common.{◌≡◌, None, drop}
use Rattle.kr_serial.proofs.Replayed.{IsRest}
use Rattle.kr_serial.proofs.steps.replay.Given as goal

-- the machine is at rest with its protocol, and what is left of the run gives what is left to tell
abbrev pub invariant-loop-event : goal.invariant-loop-event
invariant-loop-event g l = record {
  at_rest : l.machine.pending ≡ None;
  protocol : l.machine.protocol ≡ l.fn.machine.protocol;
  rest : IsRest (g.P.Protocol.table l.fn.machine.protocol) l.fn.machine.state l.fn.machine.log l.events l.machine.state l.machine.log (drop l.event-index l.events) l.replies.items;
}
