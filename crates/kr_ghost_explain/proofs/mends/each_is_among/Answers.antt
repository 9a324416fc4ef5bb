use Rattle.std.proofs.Common.{subst, sym, take, All}
use Rattle.std.proofs.lemmas.List.{take_all, take_more}
use Rattle.std.proofs.lemmas.List.Elements.{All-push}
use Rattle.kr_ghost.specs.declared.cases.FailedCase.{FailedCase}
use Rattle.kr_ghost_explain.specs.Mends.{IsAmong}
use Rattle.kr_ghost_explain.proofs.mends.each_is_among.Goals as goal

-- at the end all have been looked at
pub returns : goal.returns
returns c = λ _. subst (All (λ (f : FailedCase). IsAmong f c.args.cases.now)) (take_all c.loop-case.case-index c.args.failed.now c.loop-case-test.false) c.loop-case.invariant

-- one failure more
pub loop-case-preserved : goal.loop-case-preserved
loop-case-preserved c =
    let P : FailedCase → Type 0 = λ f. IsAmong f c.args.cases.now in
    subst (All P) (sym (take_more c.args.failed.now c.loop-case.case-index _ c.loop-case-test.true)) (All-push P (take c.loop-case.case-index c.args.failed.now) _ c.loop-case.invariant (c.is_among.ensures.0 c.if-not-is_among.false))
