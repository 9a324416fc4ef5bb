use Rattle.std.specs.Prelude.{◌≡◌, Option, true, IfSome}
use Rattle.std.proofs.Common.{subst}
use Rattle.kr_explain_runs.specs.declared.moment.Moment.{Moment}
use Rattle.kr_explain_runs.specs.Moments.{IsMomentAt}
use Rattle.kr_explain_runs.proofs.Marking.{elsewhere_aside}
use Rattle.kr_explain_runs.proofs.marks.is_again.Goals as goal

-- a step on other names
pub returns-in-Some-2 : goal.returns-in-Some-2
returns-in-Some-2 g c = λ no.
    let p = g.P.Protocol.table c.args.protocol.now in
    elsewhere_aside p c.args.script.now c.args.name c.args.place c.in-Some-2.step
    (subst (λ (o : Option Moment). IfSome o (IsMomentAt p c.args.script.now c.args.place)) c.in-Some-2.is c.in_ok-step.ensures)
    (λ on. let yes : c.is_on.result ≡ true = c.is_on.ensures.1 on in cc)
