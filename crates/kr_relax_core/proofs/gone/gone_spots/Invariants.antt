use Rattle.kr_kinds.specs.Kinds.{Gone}
use Rattle.kr_relax_core.specs.Finding.{FindsPlaces, IsFinding}
use Rattle.kr_relax_core.proofs.gone.gone_spots.Given as goal

abbrev pub invariant-loop-at : goal.invariant-loop-at
invariant-loop-at g l =
    let p = g.P.Protocol.table l.protocol.0 in
    record {
      finding : IsFinding (Gone p) l.finder;
      places : FindsPlaces p l.finder.spots.items l.pairs.items l.at;
    }
