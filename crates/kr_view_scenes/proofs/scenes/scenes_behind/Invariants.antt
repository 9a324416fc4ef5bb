use Rattle.std.proofs.Common.{◌≡◌, ◌+◌, None, drop}
use Rattle.kr_view_scenes.proofs.Rest.{IsRest}
use Rattle.kr_view_scenes.proofs.scenes.scenes_behind.Given as goal

-- the machine is at rest with its protocol, the number is that of the step before, and what is left of the run gives what is left to draw
abbrev pub invariant-loop-event : goal.invariant-loop-event
invariant-loop-event g l = record {
  at_rest : l.machine.pending ≡ None;
  protocol : l.machine.protocol ≡ l.fn.machine.protocol;
  number : l.number ≡ l.done + l.event-index;
  rest : IsRest (g.P.Protocol.table l.fn.machine.protocol.now) l.fn.machine.state (l.done + 1) l.steps l.machine.state (l.number + 1) (drop l.event-index l.steps) l.scenes.items;
}
