use Rattle.std.proofs.Common.{◌-◌}
use Rattle.kr_ghost_decide.proofs.News.{IsPassing}
use Rattle.kr_ghost_decide.proofs.every.all_found.Given as goal

abbrev pub invariant-loop-before : goal.invariant-loop-before
invariant-loop-before g l = IsPassing (g.P.GhostProtocol.ghosts l.protocol) (λ m. Unit {0}) l.before l.found

abbrev pub decreases-loop-before : goal.decreases-loop-before
decreases-loop-before g l = 294912 - l.before
