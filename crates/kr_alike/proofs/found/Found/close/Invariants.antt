use Rattle.std.proofs.Common.{◌-◌}
use Rattle.kr_alike.proofs.Growing.{IsPassing}
use Rattle.kr_alike.proofs.found.Found.close.Given as goal

abbrev pub invariant-loop-before : goal.invariant-loop-before
invariant-loop-before g l = IsPassing (g.P.Protocol.table l.first) (g.Q.Protocol.table l.second) l.coming l.before l.self

abbrev pub decreases-loop-before : goal.decreases-loop-before
decreases-loop-before g l = 65536 - l.before
