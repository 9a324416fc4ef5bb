use Rattle.std.specs.Prelude.{IfSome}
use Rattle.std.proofs.Common.{subst}
use Rattle.std.proofs.lemmas.Result.{on_ok_weaker}
use Rattle.kr_cli_trace.specs.OnePart.{IsKeptIfAsked, IsWatchedGhosts}
use Rattle.kr_cli_trace.proofs.one_ghost_part.PassedGhostsPart.step.Goals as goal

pub returns-in-Some-clause-step : goal.returns-in-Some-clause-step
returns-in-Some-clause-step g c n s h =
    let q = c.args.self.now.protocol.now in
    let kept = subst (λ o. IsKeptIfAsked c.args.self.now.asked o n) c.in-Some.is h.0 in
    let was = subst (λ o. IfSome o (λ w. IsWatchedGhosts g.P.GhostProtocol.ghosts q s w.follower w.found w.opening w.steps.items)) c.in-Some.is h.1 in
    on_ok_weaker c.take.result (λ now. (kept, now)) (c.take.ensures q s was)
