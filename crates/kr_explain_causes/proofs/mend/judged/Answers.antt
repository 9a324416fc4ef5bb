use Rattle.std.proofs.Common.{ap, sym}
use Rattle.std.proofs.lemmas.Result.{IfOk-weaker}
use Rattle.kr_explain_causes.proofs.Given.{said_of}
use Rattle.kr_explain_causes.proofs.mend.judged.Goals as goal

-- the table that was judged is the one that was given, changed
pub returns-in-Some : goal.returns-in-Some
returns-in-Some g c =
    let table = g.P.Protocol.table in
    let made = c.in-Some.changed in
    IfOk-weaker c.verdict_on.result _ _ (λ v told. said_of (table c.args.protocol.now) (table made.base.now.0.now) c.args.cases.now c.args.failed.now c.args.change made.change v (ap (λ x. table x.0.now) c.in-Some.ensures.base) c.in-Some.ensures.change (sym c.in-Some.ensures.exactly) told) c.verdict_on.ensures
