use Rattle.std.proofs.Common.{List, subst, sym}
use Rattle.std.specs.List.Sorted.{IsPermutation}
use Rattle.kr_model.specs.declared.FailedCase.{FailedCase}
use Rattle.kr_explain_core.proofs.Trying.{ordered_again}
use Rattle.kr_explain_core.proofs.explaining.holes_first.Goals as goal

pub returns : goal.returns
returns c =
    let sorted : IsPermutation c.in_ok-all.all.items c.sort_by_key.new.self.items = c.in_ok-sort_by_key.ensures.permutation in
    let of_cases = subst (λ (xs : List FailedCase). IsPermutation xs c.sort_by_key.new.self.items) c.in_ok-all.ensures.items sorted in
    ordered_again c.args.cases.now c.deref.result.now c.firsts_first.result (subst (λ (ys : List FailedCase). IsPermutation c.args.cases.now ys) (sym c.deref.ensures.value) of_cases) c.firsts_first.ensures
