use Rattle.kr_ghost_decide.specs.Holds.{fact}
use Rattle.kr_kinds.specs.Kinds.{Leaves}
use Rattle.kr_relax_core.specs.Finding.{FindsAsks, FindsMore}
use Rattle.kr_relax_core.proofs.finder.Finder.add_asks.Given as goal

abbrev pub invariant-loop-number : goal.invariant-loop-number
invariant-loop-number g l =
    let p = g.P.GhostProtocol.ghosts l.protocol.0 in
    record {
      more : FindsMore (Leaves p) l.fn.self l.self;
      asks : FindsAsks p l.self.spots.items (fact l.pair) l.number;
    }
