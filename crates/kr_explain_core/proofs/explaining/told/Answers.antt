use Rattle.std.proofs.Common.{◌≡◌, ◌↔◌, List, true, subst, ◌∙◌}
use Rattle.std.specs.Option.{is_some, IfSome}
use Rattle.kr_model.specs.declared.FailedCase.{FailedCase}
use Rattle.kr_explain_core.specs.Harmless.{IsHarmless, IsReason}
use Rattle.kr_explain_core.proofs.Trying.{goes_wrong}
use Rattle.kr_explain_core.proofs.explaining.told.Goals as goal

pub returns-clause-told : goal.returns-clause-told
returns-clause-told g c =
    let p = g.P.Protocol.table c.args.protocol.now in
    let why = c.why_harmless-harmless.result in
    let told = c.in_ok-told.ensures.told in
    record {
      harmless = subst (λ (l : List FailedCase). is_some why ≡ true ↔ IsHarmless p c.args.known.failed.now l) c.deref.ensures.value c.why_harmless-harmless.ensures.exactly;
      reason = subst (λ (l : List FailedCase). IfSome why (IsReason p l)) c.deref.ensures.value c.why_harmless-harmless.ensures.reason;
      wrong = goes_wrong p _ _ told.told.shown;
      order = told.order;
      same = told.same;
      tried = told.told;
      untried = λ some. c.in_ok-told.ensures.untold (c.is_some.ensures ∙ some);
      mended = c.in_ok-mend.ensures.mends;
      entry = c.in_ok-mend.ensures.of_one_entry;
    }
