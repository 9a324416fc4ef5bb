use Rattle.std.specs.Prelude.{Option, IfSome}
use Rattle.std.proofs.Common.{subst}
use Rattle.std.proofs.lemmas.Result.{IfOk-weaker}
use Rattle.kr_explain_runs.specs.declared.marks.Marks.{Marks}
use Rattle.kr_explain_runs.specs.Moments.{AreMarksOf}
use Rattle.kr_explain_runs.proofs.Marking.{all_marked}
use Rattle.kr_explain_runs.proofs.marks.are_marked.Goals as goal

-- the marks that were found
pub returns : goal.returns
returns g c =
    let p = g.P.Protocol.table c.args.protocol.now in
    let marks = subst (λ (o : Option Marks). IfSome o (AreMarksOf p c.args.case.now.cover c.args.script.now)) c.in-Some.is c.in_ok-marks.ensures in
    IfOk-weaker c.is_lock_of.result _ _ (λ is lock yes. all_marked p c.args.case.now c.args.fit c.args.script.now c.in-Some.marks marks (c.in_ok-is_last.ensures c.if-not-branch.false) (lock yes)) c.is_lock_of.ensures
