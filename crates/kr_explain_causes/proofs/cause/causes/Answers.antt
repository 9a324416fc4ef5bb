use Rattle.std.proofs.Common.{◌<◌, ◌++◌, List, length, sym, subst, All}
use Rattle.std.specs.List.Sorted.{IsPermutation}
use Rattle.std.proofs.lemmas.List.Elements.{All-push}
use Rattle.std.proofs.lemmas.List.Sorted.{IsPermutation-refl}
use Rattle.kr_model.specs.declared.FailedCase.{FailedCase}
use Rattle.kr_explain_causes.specs.declared.cause.Cause.{Cause}
use Rattle.kr_explain_causes.specs.declared.cause.Suspect.{Suspect}
use Rattle.kr_explain_causes.specs.Causes.{IsSublist, all_cases, cases_of}
use Rattle.kr_explain_causes.specs.Shares.{IsCause, IsSuspect}
use Rattle.kr_explain_causes.proofs.InOrder.{below_none, each_in, itself, mapped, through}
use Rattle.kr_explain_causes.proofs.Named.{each_blamed}
use Rattle.kr_explain_causes.proofs.Sharing.{fewer_left, shared_next}
use Rattle.kr_explain_causes.proofs.cause.causes.Goals as goal

-- at first all cases are left
pub loop-alloc-init : goal.loop-alloc-init
loop-alloc-init g c =
    let failed = c.args.failed.now in
    let left = c.in_ok-left.left.items in
    record {
      all = subst (λ (xs : List Cause). IsPermutation failed (all_cases xs ++ cases_of left)) (sym c.new-causes.ensures.items) (subst (IsPermutation failed) (sym c.in_ok-left.ensures.cases) (IsPermutation-refl failed));
      some = subst (All (λ (x : Cause). 0 < length x.cases.items)) (sym c.new-causes.ensures.items) (λ k d low. absurd (below_none k low));
      each = subst (All (IsCause (g.P.Protocol.table c.args.protocol.now) failed)) (sym c.new-causes.ensures.items) (λ k d low. absurd (below_none k low));
      reasons = c.in_ok-left.ensures.reasons;
      in_order = subst (λ (xs : List FailedCase). IsSublist xs failed) (sym c.in_ok-left.ensures.cases) (itself failed);
    }

-- what is blamed explains one case at least
pub loop-alloc-smaller : goal.loop-alloc-smaller
loop-alloc-smaller g c = fewer_left c.loop-alloc.left.items c.deref-in-loop-alloc.result.now c.in_ok-parted.parted.explained.items c.in_ok-parted.parted.left.items c.deref-in-loop-alloc.ensures.value c.in_ok-parted.ensures.same c.in_ok-parted.ensures.some

-- one cause more
pub loop-alloc-preserved : goal.loop-alloc-preserved
loop-alloc-preserved g c =
    let p = g.P.Protocol.table c.args.protocol.now in
    let failed = c.args.failed.now in
    let now = c.deref-in-loop-alloc.result.now in
    let same = c.deref-in-loop-alloc.ensures.value in
    let parted = c.in_ok-parted.parted in
    let told = c.in_ok-parted.ensures in
    let reasons : All (IsSuspect p) now = subst (All (IsSuspect p)) (sym same) c.loop-alloc.invariant.reasons in
    let before : IsSublist (cases_of now) failed = subst (λ (xs : List Suspect). IsSublist (cases_of xs) failed) (sym same) c.loop-alloc.invariant.in_order in
    record {
      all = shared_next failed c.loop-alloc.causes.items c.push.new.self.items _ c.loop-alloc.left.items now parted.left.items same c.loop-alloc.invariant.all told.same c.in_ok-push.ensures.items;
      some = subst (All (λ (x : Cause). 0 < length x.cases.items)) (sym c.in_ok-push.ensures.items)
          (All-push (λ (x : Cause). 0 < length x.cases.items) c.loop-alloc.causes.items _ c.loop-alloc.invariant.some told.some);
      each = subst (All (IsCause p failed)) (sym c.in_ok-push.ensures.items)
          (All-push (IsCause p failed) c.loop-alloc.causes.items _ c.loop-alloc.invariant.each (record {
            blamed = each_blamed p now c.in_ok-leader.leader.blame parted.explained.items reasons told.named;
            in_order = through parted.explained.items (cases_of now) failed told.explained_in_order before;
          }));
      reasons = each_in (IsSuspect p) parted.left.items now told.left_in_order reasons;
      in_order = through (cases_of parted.left.items) (cases_of now) failed (mapped (λ s. s.case) parted.left.items now told.left_in_order) before;
    }
