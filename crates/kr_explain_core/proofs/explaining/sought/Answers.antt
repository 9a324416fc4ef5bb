use Rattle.std.proofs.Common.{List, subst, sym}
use Rattle.std.specs.List.Sorted.{IsPermutation}
use Rattle.kr_model.specs.declared.FailedCase.{FailedCase}
use Rattle.kr_explain_core.proofs.Trying.{in_order, none_in_order}
use Rattle.kr_explain_core.proofs.explaining.sought.Goals as goal

pub returns-clause-told : goal.returns-clause-told
returns-clause-told g c =
    let cases = c.args.cause.now.cases.items in
    let held : IsPermutation c.deref.result.now c.in_ok-cases.cases.items = c.in_ok-cases.ensures in
    let of_cause = subst (λ (xs : List FailedCase). IsPermutation xs c.in_ok-cases.cases.items) c.deref.ensures.value held in
    in_order (g.P.Protocol.table c.args.protocol.now) cases c.deref-2.result.now c.told_run.result (subst (λ (ys : List FailedCase). IsPermutation c.args.cause.now.cases.items ys) (sym c.deref-2.ensures.value) of_cause) c.told_run.ensures.told

pub returns-then-is_harmless-clause-told : goal.returns-then-is_harmless-clause-told
returns-then-is_harmless-clause-told g c = none_in_order (g.P.Protocol.table c.args.protocol.now) c.args.cause.now.cases.items c.none.result c.none.ensures
