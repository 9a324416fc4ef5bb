use Rattle.std.proofs.Common.{◌-◌}
use Rattle.kr_ghost_decide.proofs.News.{IsGoing}
use Rattle.kr_ghost_decide.proofs.found.Found.follow.Given as goal

abbrev pub invariant-loop-then : goal.invariant-loop-then
invariant-loop-then g l = IsGoing (g.P.GhostProtocol.ghosts l.protocol) l.fn.self l.self

abbrev pub decreases-loop-then : goal.decreases-loop-then
decreases-loop-then g l = 294912 - l.self.count
