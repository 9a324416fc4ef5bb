use Rattle.kr_kinds.specs.Kinds.{Leaves}
use Rattle.kr_relax_core.specs.Finding.{FindsEach, IsFinding}
use Rattle.kr_relax_core.proofs.leaving.leaving_spots.Given as goal

abbrev pub invariant-loop-at : goal.invariant-loop-at
invariant-loop-at g l =
    let p = g.P.GhostProtocol.ghosts l.protocol.0 in
    record {
      finding : IsFinding (Leaves p) l.finder;
      each : FindsEach p l.finder.spots.items l.pairs.items l.at;
    }
