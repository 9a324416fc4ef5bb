use Rattle.kr_decide.specs.Opens.{AreHoled}
use Rattle.kr_decide.proofs.survey.holed_in.Given as goal

abbrev pub invariant-loop-mode : goal.invariant-loop-mode
invariant-loop-mode l = AreHoled l.pairs l.opens l.cover l.mode l.list.items
