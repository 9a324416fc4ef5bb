use Rattle.std.proofs.Common.{◌≡◌, drop}
use Rattle.kr_ghost_view.specs.Moves.{after_all}
use Rattle.kr_ghost_view.proofs.scenes.do_all.Given as goal

-- the machine has its protocol, and what is left of the moves leads to where all of them do
abbrev pub invariant-loop-next : goal.invariant-loop-next
invariant-loop-next g l = record {
  protocol : l.stepper.protocol ≡ l.fn.stepper.protocol;
  last : (let p = g.P.GhostProtocol.ghosts l.fn.stepper.protocol in after_all p l.stepper.state (drop l.next-index l.moves) ≡ after_all p l.fn.stepper.state l.moves);
}
