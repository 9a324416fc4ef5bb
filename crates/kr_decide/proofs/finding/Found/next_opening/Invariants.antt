use Rattle.kr_decide.specs.Opens.{LetsNoDeleteIn}
use Rattle.kr_decide.proofs.finding.Found.next_opening.Given as goal

abbrev pub invariant-loop-at : goal.invariant-loop-at
invariant-loop-at g l = LetsNoDeleteIn (g.P.Protocol.table l.protocol) l.self.nexts.items l.at l.own l.other
