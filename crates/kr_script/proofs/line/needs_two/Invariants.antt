use Rattle.std.proofs.Common.{◌≡◌, drop}
use Rattle.kr_script.specs.Line.{needs_two}
use Rattle.kr_script.proofs.line.needs_two.Given as goal

-- whether one of the rest needs it is whether some does
abbrev pub invariant-loop-step : goal.invariant-loop-step
invariant-loop-step l = needs_two (drop l.step-index l.steps) ≡ needs_two l.steps
