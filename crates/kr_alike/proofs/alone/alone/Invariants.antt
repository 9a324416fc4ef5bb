use Rattle.kr_alike.proofs.Lists.{Collected}
use Rattle.kr_alike.proofs.alone.alone.Given as goal

abbrev pub invariant-loop-at : goal.invariant-loop-at
invariant-loop-at g l = Collected (g.P.Protocol.table l.protocol) l.pairs.items l.at l.states.items
