use Rattle.std.specs.Prelude.{◌+◌, length}
use Rattle.std.proofs.Common.{ap}
use Rattle.kr_model.specs.Run.{run}
use Rattle.kr_view_scenes.proofs.Rest.{same_run}
use Rattle.kr_view_scenes.proofs.scenes.scenes_on.Goals as goal

pub returns : goal.returns
returns g c =
    let table = g.P.Protocol.table in
    let p = table c.args.machine.now.protocol.now in
    same_run c.drawn_behind.result (table c.replay.new.machine.protocol.now) p c.replay.new.machine.state (run p c.args.machine.now.state c.args.earlier.now).state (length c.args.earlier.now + 1) c.args.steps.now
    (ap (λ q. table q.now) c.in_ok-replies.ensures.protocol) c.in_ok-replies.ensures.state c.drawn_behind.ensures
