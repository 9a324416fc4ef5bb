use Rattle.std.proofs.Common.{◌≡◌, drop}
use Rattle.kr_ghost_run.proofs.Rest.{IsLeft}
use Rattle.kr_ghost_run.proofs.played.answer_all.Given as goal

-- the machine has its protocol, and what is left of the run gives what is left to answer
abbrev pub invariant-loop-next : goal.invariant-loop-next
invariant-loop-next g l = record {
  protocol : l.stepper.protocol ≡ l.fn.stepper.protocol;
  rest : IsLeft (g.P.GhostProtocol.ghosts l.fn.stepper.protocol) l.fn.stepper.state l.moves l.stepper.state (drop l.next-index l.moves) l.given.items;
}
