use Rattle.kr_decide.specs.Opens.{AreHeld}
use Rattle.kr_decide.proofs.survey.held_of.Given as goal

abbrev pub invariant-loop-mode : goal.invariant-loop-mode
invariant-loop-mode l = AreHeld l.pairs l.cover l.mode l.list.items
