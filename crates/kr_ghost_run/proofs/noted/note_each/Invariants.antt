use Rattle.std.proofs.Common.{◌≡◌, drop}
use Rattle.kr_ghost_run.proofs.Rest.{IsRest}
use Rattle.kr_ghost_run.proofs.noted.note_each.Given as goal

-- the machine has its protocol, and what is left of the run gives what is left to answer
abbrev pub invariant-loop-next : goal.invariant-loop-next
invariant-loop-next g l = record {
  protocol : l.stepper.protocol ≡ l.fn.stepper.protocol;
  rest : IsRest (g.P.GhostProtocol.ghosts l.fn.stepper.protocol) l.fn.stepper.state l.fn.log.log l.moves l.stepper.state l.log.log (drop l.next-index l.moves) l.given.items;
}
