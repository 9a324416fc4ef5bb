use Rattle.kr_decide.specs.Opens.{NoneOpens}
use Rattle.kr_decide.proofs.finding.Found.first_opening.Given as goal

abbrev pub invariant-loop-at : goal.invariant-loop-at
invariant-loop-at g l = NoneOpens (g.P.Protocol.table l.protocol) l.self.pairs.items l.at
