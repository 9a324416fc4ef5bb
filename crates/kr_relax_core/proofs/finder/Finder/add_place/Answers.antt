use Rattle.std.proofs.Common.{arith}
use Rattle.kr_kinds.specs.Kinds.{Gone}
use Rattle.kr_relax_core.proofs.Finding.{more_none, more_on}
use Rattle.kr_relax_core.proofs.GoneSpots.{pairs_step}
use Rattle.kr_relax_core.proofs.finder.Finder.add_place.Goals as goal

pub loop-at-init : goal.loop-at-init
loop-at-init g c = record { more = more_none (Gone (g.P.Protocol.table c.args.protocol.now.0)) c.args.self.now c.requires.finding; pairs = λ i low. absurd (omega arith) }

-- with the requests of one more pair
pub loop-at-preserved : goal.loop-at-preserved
loop-at-preserved g c =
    let p = g.P.Protocol.table c.args.protocol.now.0 in
    let old = c.loop-at.self in
    let new = c.add_pair.new.self in
    let before = c.loop-at.invariant in
    let found = c.in_ok-add_pair.ensures in
    let more = found.more in
    record {
      more = more_on (Gone p) c.args.self.now old new before.more more;
      pairs = pairs_step p old.spots.items new.spots.items c.args.row c.args.side c.args.pairs.now c.loop-at.at more.kept before.pairs found.nexts;
    }
