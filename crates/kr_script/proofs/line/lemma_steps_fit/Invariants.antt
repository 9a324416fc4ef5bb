use Rattle.std.specs.Prelude.{All, take}
use Rattle.kr_script.specs.Line.{EventFits}
use Rattle.kr_script.proofs.line.lemma_steps_fit.Given as goal

-- those so far fit
abbrev pub invariant-loop-step : goal.invariant-loop-step
invariant-loop-step l = All EventFits (take l.step-index l.steps)
