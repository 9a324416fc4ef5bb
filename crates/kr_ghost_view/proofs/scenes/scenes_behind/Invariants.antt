use Rattle.std.proofs.Common.{◌≡◌, ◌+◌, drop}
use Rattle.kr_ghost_view.proofs.Rest.{IsRest}
use Rattle.kr_ghost_view.proofs.scenes.scenes_behind.Given as goal

-- the machine has its protocol, the number is that of the move before, and what is left of the run gives what is left to draw
abbrev pub invariant-loop-next : goal.invariant-loop-next
invariant-loop-next g l = record {
  protocol : l.stepper.protocol ≡ l.fn.stepper.protocol;
  number : l.number ≡ l.before + l.next-index;
  rest : IsRest (g.P.GhostProtocol.ghosts l.fn.stepper.protocol) l.fn.stepper.state (l.before + 1) l.moves l.stepper.state (l.number + 1) (drop l.next-index l.moves) l.scenes.items;
}
