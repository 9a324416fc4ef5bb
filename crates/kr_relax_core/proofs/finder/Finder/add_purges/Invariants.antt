use Rattle.kr_ghost_decide.specs.Holds.{fact}
use Rattle.kr_kinds.specs.Kinds.{Leaves}
use Rattle.kr_relax_core.specs.Finding.{FindsMore, FindsPurges}
use Rattle.kr_relax_core.proofs.finder.Finder.add_purges.Given as goal

abbrev pub invariant-loop-at : goal.invariant-loop-at
invariant-loop-at g l =
    let p = g.P.GhostProtocol.ghosts l.protocol.0 in
    record {
      more : FindsMore (Leaves p) l.fn.self l.self;
      purges : FindsPurges p l.self.spots.items l.pairs l.at (fact l.pair);
    }
