use Rattle.kr_ghost_explain.proofs.Sharing.{ArePartedAt}
use Rattle.kr_ghost_explain.proofs.causes.part.Given as goal

-- the cases so far are parted
abbrev pub invariant-loop-number : goal.invariant-loop-number
invariant-loop-number l = ArePartedAt l.left l.first.blame l.number l.cases.items l.rest.items
