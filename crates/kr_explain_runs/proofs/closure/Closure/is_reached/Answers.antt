use Rattle.std.proofs.Common.{subst, List}
use Rattle.std.specs.Prelude.{IsTrue}
use Rattle.std.specs.List.{Any}
use Rattle.kr_explain_runs.specs.About.{is_about}
use Rattle.kr_explain_runs.specs.declared.reached.Reached.{Reached}
use Rattle.kr_explain_runs.proofs.Coming.{come_to}
use Rattle.kr_explain_runs.proofs.closure.Closure.is_reached.Goals as goal

-- the state that the case is about is reached
pub returns-clause-comes : goal.returns-clause-comes
returns-clause-comes g c = λ closed is.
    let p = g.P.Protocol.table c.args.protocol.now in
    let here : Any (λ r. IsTrue (is_about p c.args.case.now r.state)) c.args.self.now.reached.items =
    subst (λ (rs : List Reached). Any (λ r. IsTrue (is_about p c.args.case.now r.state)) rs) c.deref.ensures.value (c.has_about.ensures.0 is) in
    come_to p c.args.case.now c.args.self.now.reached.items closed here
