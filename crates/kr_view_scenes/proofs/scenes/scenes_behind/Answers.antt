use Rattle.std.proofs.Common.{◌∙◌, ◌+◌, ap, arith}
use Rattle.kr_view_scenes.proofs.Rest.{one_shown}
use Rattle.kr_view_scenes.proofs.scenes.scenes_behind.Goals as goal

pub loop-event-preserved : goal.loop-event-preserved
loop-event-preserved g c =
    let table = g.P.Protocol.table in
    let args = c.args in
    let at = c.loop-event in
    let ensures = c.in_ok-scene.ensures in
    let counted = at.invariant.number in
    record {
      at_rest = ensures.at_rest;
      protocol = ensures.protocol ∙ at.invariant.protocol;
      number = omega (arith, counted);
      rest = one_shown (table args.machine.now.protocol.now) (table at.machine.protocol.now) args.machine.now.state (args.done + 1) args.steps.now at.machine.state c.scene_of.new.machine.state (at.number + 1) at.event-index _
          at.scenes.items c.push.new.self.items c.in_ok-scene.scene (ap (λ q. table q.now) at.invariant.protocol) c.loop-event-test.true at.invariant.rest ensures.scene ensures.state c.in_ok-push.ensures.items;
    }
