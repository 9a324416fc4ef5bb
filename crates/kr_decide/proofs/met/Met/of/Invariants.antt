use Rattle.kr_decide.specs.Met.{IsSound, MarksBelow, AreDone}
use Rattle.kr_decide.proofs.met.Met.of.Given as goal

abbrev pub invariant-loop-at : goal.invariant-loop-at
invariant-loop-at g l =
    let p = g.P.Protocol.table l.protocol in
    record {
      sound : IsSound p l.met;
      marks : MarksBelow p l.met l.found.pairs.items l.found.nexts.items l.at;
      done : AreDone p l.met l.found.nexts.items l.done.items;
    }
