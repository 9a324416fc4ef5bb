use Rattle.std.specs.Prelude.{map, string_bytes}
use Rattle.std.proofs.lemmas.Result.{on_ok_weaker}
use Rattle.kr_cli_trace.proofs.GhostLaws.{step_followed}
use Rattle.kr_cli_trace.proofs.ghosts.FollowedGhostsPart.step.Goals as goal

pub returns-clause-step : goal.returns-clause-step
returns-clause-step g c n s h =
    let q = c.args.self.now.protocol.now in
    on_ok_weaker c.take.result
    (λ d. step_followed g.P.GhostProtocol.ghosts q s c.args.number c.args.event c.args.observed c.args.self.now.follower c.line.new.self c.args.self.now.found c.in_ok-self.field-0 (map string_bytes c.args.self.now.tests.items)
    c.args.self.now.judging.tales c.take.new.self.tales c.args.self.now.judging.judge.map c.take.new.self.judge.map c.args.self.now.judging.found c.take.new.self.found
    h (c.in_ok-self.ensures.followed q s.opening s.steps h.followed) c.in_ok-self.ensures.found d)
    (c.take.ensures s.opening s.steps c.args.number h.judged)
