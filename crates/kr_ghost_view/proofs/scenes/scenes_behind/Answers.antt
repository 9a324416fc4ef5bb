use Rattle.std.proofs.Common.{◌∙◌, ◌+◌, ap, arith}
use Rattle.kr_ghost_view.proofs.Rest.{one_shown}
use Rattle.kr_ghost_view.proofs.scenes.scenes_behind.Goals as goal

pub loop-next-preserved : goal.loop-next-preserved
loop-next-preserved g c =
    let ghosts = g.P.GhostProtocol.ghosts in
    let args = c.args in
    let at = c.loop-next in
    let ensures = c.in_ok-scene.ensures in
    let counted = at.invariant.number in
    record {
      protocol = ensures.protocol ∙ at.invariant.protocol;
      number = omega (arith, counted);
      rest = one_shown (ghosts args.stepper.now.protocol) (ghosts at.stepper.protocol) args.stepper.now.state (args.before + 1) args.moves.now at.stepper.state c.scene_of.new.stepper.state (at.number + 1) at.next-index _
          at.scenes.items c.push.new.self.items c.in_ok-scene.scene (ap ghosts at.invariant.protocol) c.loop-next-test.true at.invariant.rest ensures.scene ensures.state c.in_ok-push.ensures.items;
    }
