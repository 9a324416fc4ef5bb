use Rattle.std.proofs.Common.{◌∙◌, ap}
use Rattle.kr_ghost_view.specs.Moves.{after_all}
use Rattle.kr_ghost_view.proofs.Rest.{one_done}
use Rattle.kr_ghost_view.proofs.scenes.do_all.Goals as goal

pub loop-next-preserved : goal.loop-next-preserved
loop-next-preserved g c =
    let ghosts = g.P.GhostProtocol.ghosts in
    let args = c.args in
    let at = c.loop-next in
    let p = ghosts args.stepper.now.protocol in
    record {
      protocol = c.in_ok-done.ensures.protocol ∙ at.invariant.protocol;
      last = one_done p (ghosts at.stepper.protocol) at.stepper.state c.done.new.stepper.state (after_all p args.stepper.now.state args.moves.now) args.moves.now at.next-index _
          (ap ghosts at.invariant.protocol) c.loop-next-test.true at.invariant.last c.in_ok-done.ensures.state;
    }
