use Rattle.kr_decide.specs.Findings.{Grows, MovesByNexts}
use Rattle.kr_decide.proofs.finding.Found.add_nexts.Given as goal

abbrev pub invariant-loop-at : goal.invariant-loop-at
invariant-loop-at g l =
    let p = g.P.Protocol.table l.protocol in
    record {
      grows : Grows p l.fn.self l.self;
      moves : MovesByNexts p l.self.pairs.items l.fn.self.nexts.items l.at l.pair.own l.pair.other;
    }
