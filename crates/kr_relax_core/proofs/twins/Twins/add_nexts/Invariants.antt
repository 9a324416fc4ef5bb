use Rattle.kr_relax_core.specs.Twins.{Grows, LeadsNexts}
use Rattle.kr_relax_core.proofs.twins.Twins.add_nexts.Given as goal

abbrev pub invariant-loop-at : goal.invariant-loop-at
invariant-loop-at g l =
    let p = g.P.IndexProtocol.index l.base in
    let q = g.Q.IndexProtocol.index l.other in
    record {
      grows : Grows p q l.fn.self l.self;
      leads : LeadsNexts p q l.self.twins.items l.from l.at l.request l.own;
    }
