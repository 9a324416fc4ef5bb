use Rattle.kr_decide.specs.Met.{Adds, MarksByNexts}
use Rattle.kr_decide.proofs.met.Met.add_nexts.Given as goal

abbrev pub invariant-loop-at : goal.invariant-loop-at
invariant-loop-at g l =
    let p = g.P.Protocol.table l.protocol in
    record {
      adds : Adds p l.fn.self l.self;
      marks : MarksByNexts p l.self l.found.nexts.items l.at l.row l.own l.other;
    }
