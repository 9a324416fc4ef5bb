use Rattle.kr_decide.specs.Opens.{IsHoledBelow}
use Rattle.kr_decide.proofs.survey.is_holed_in.Given as goal

abbrev pub invariant-loop-at : goal.invariant-loop-at
invariant-loop-at l = IsHoledBelow l.pairs l.opens l.cover l.mode l.at → ⊥
