use Rattle.std.proofs.Common.{subst, sym, take, All}
use Rattle.std.proofs.lemmas.List.{take_all, take_more}
use Rattle.std.proofs.lemmas.List.Elements.{All-push}
use Rattle.kr_script.specs.Line.{EventFits}
use Rattle.kr_script.proofs.line.lemma_steps_fit.Goals as goal

-- at the end all have been looked at
pub returns : goal.returns
returns c = subst (All EventFits) (take_all c.loop-step.step-index c.args.steps.now c.loop-step-test.false) c.loop-step.invariant

-- one more
pub loop-step-preserved : goal.loop-step-preserved
loop-step-preserved c =
    subst (All EventFits) (sym (take_more c.args.steps.now c.loop-step.step-index _ c.loop-step-test.true)) (All-push EventFits (take c.loop-step.step-index c.args.steps.now) _ c.loop-step.invariant c.lemma_event_fits.ensures)
