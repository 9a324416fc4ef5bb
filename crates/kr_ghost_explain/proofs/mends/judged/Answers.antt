use Rattle.std.proofs.Common.{ap, sym}
use Rattle.std.proofs.lemmas.Result.{IfOk-weaker}
use Rattle.kr_ghost_explain.proofs.Given.{said_of}
use Rattle.kr_ghost_explain.proofs.mends.judged.Goals as goal

-- the table that was judged is the one that was given, changed
pub returns-in-Some : goal.returns-in-Some
returns-in-Some g c =
    let ghosts = g.P.GhostProtocol.ghosts in
    let made = c.in-Some.changed in
    IfOk-weaker c.verdict_on.result _ _ (λ v told. said_of (ghosts c.args.protocol.now) (ghosts made.base.now.0.now) c.args.cases.now c.args.failed.now c.args.change made.change v (ap (λ x. ghosts x.0.now) c.in-Some.ensures.base) c.in-Some.ensures.change (sym c.in-Some.ensures.exactly) told) c.verdict_on.ensures
