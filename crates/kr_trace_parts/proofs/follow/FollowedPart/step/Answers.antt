use Rattle.std.specs.Prelude.{map, string_bytes}
use Rattle.std.proofs.Common.{ap}
use Rattle.std.proofs.lemmas.Result.{on_ok_weaker}
use Rattle.kr_trace_parts.proofs.FollowLaws.{step_followed}
use Rattle.kr_trace_parts.proofs.follow.FollowedPart.step.Goals as goal

pub returns-clause-step : goal.returns-clause-step
returns-clause-step g c n s h =
    let table = g.P.Protocol.table in
    on_ok_weaker c.take.result
    (λ d. step_followed (table c.args.self.now.protocol.now) (table c.args.self.now.follower.protocol) (table c.line.new.self.protocol) s c.args.number c.args.event c.args.observed
    c.args.self.now.follower.following c.line.new.self.following c.args.self.now.found c.in_ok-self.field-0 (map string_bytes c.args.self.now.tests.items)
    c.args.self.now.judging.tales c.take.new.self.tales c.args.self.now.judging.judge.map c.take.new.self.judge.map c.args.self.now.judging.found c.take.new.self.found
    h (ap table c.in_ok-self.ensures.protocol) c.in_ok-self.ensures.followed c.in_ok-self.ensures.found d)
    (c.take.ensures s.opening s.steps c.args.number h.judged)
