use Rattle.kr_decide.specs.Findings.{Grows, AllMoveByNext}
use Rattle.kr_decide.proofs.finding.Found.add_everywhere.Given as goal

abbrev pub invariant-loop-from : goal.invariant-loop-from
invariant-loop-from g l =
    let p = g.P.Protocol.table l.protocol in
    record {
      grows : Grows p l.fn.self l.self;
      moves : AllMoveByNext p l.self.pairs.items l.fn.self.pairs.items l.from l.above.state;
    }
