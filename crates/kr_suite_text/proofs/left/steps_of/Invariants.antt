-- the steps so far, and those of the parts that are left, are all
use Rattle.std.proofs.Common.{◌≡◌, drop}
use Rattle.kr_suite_text.specs.Whole.{steps_from}
use Rattle.kr_suite_text.proofs.left.steps_of.Given as goal

abbrev pub invariant-loop-part : goal.invariant-loop-part
invariant-loop-part l = steps_from l.steps (drop l.part-index l.parts) ≡ steps_from 0 l.parts
