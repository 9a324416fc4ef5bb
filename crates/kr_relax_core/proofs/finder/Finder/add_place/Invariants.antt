use Rattle.kr_kinds.specs.Kinds.{Gone}
use Rattle.kr_relax_core.specs.Finding.{FindsMore, FindsPairs}
use Rattle.kr_relax_core.proofs.finder.Finder.add_place.Given as goal

abbrev pub invariant-loop-at : goal.invariant-loop-at
invariant-loop-at g l =
    let p = g.P.Protocol.table l.protocol.0 in
    record {
      more : FindsMore (Gone p) l.fn.self l.self;
      pairs : FindsPairs p l.self.spots.items l.row l.side l.pairs l.at;
    }
