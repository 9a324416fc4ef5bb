use Rattle.std.proofs.Common.{ap}
use Rattle.kr_cli_trace.proofs.OnePartLaws.{step_watched}
use Rattle.kr_cli_trace.proofs.one_part.Watched.take.Goals as goal

pub returns : goal.returns
returns g c p s h =
    let table = g.P.Protocol.table in
    step_watched p (table c.args.self.now.follower.protocol) (table c.line.new.self.protocol) s c.args.number c.args.event c.args.observed
    c.args.self.now.follower.following c.line.new.self.following c.args.self.now.found c.in_ok-self.field-0 c.args.self.now.opening c.args.self.now.steps.items c.push.new.self.items
    h (ap table c.in_ok-self.ensures.protocol) c.in_ok-self.ensures.followed c.in_ok-self.ensures.found c.in_ok-push.ensures.items
