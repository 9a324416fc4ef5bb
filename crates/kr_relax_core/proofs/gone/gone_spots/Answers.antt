use Rattle.std.proofs.Common.{◌≡◌, List, length, get_or, ap, subst, arith}
use Rattle.kr_model.specs.declared.Row.{Row}
use Rattle.kr_model.specs.declared.Row.TheVariants.{FetchHit}
use Rattle.kr_model.specs.declared.Side.{Side}
use Rattle.kr_model.specs.declared.Side.TheVariants.{Current}
use Rattle.kr_decide.specs.declared.pair.Pair.{Pair}
use Rattle.kr_kinds.specs.Kinds.{Gone}
use Rattle.kr_relax_core.specs.Finding.{FindsPairs, FindsPlaces}
use Rattle.kr_relax_core.proofs.GoneSpots.{places_step, all_met}
use Rattle.kr_relax_core.proofs.gone.gone_spots.Goals as goal

pub loop-at-init : goal.loop-at-init
loop-at-init g c = record { finding = c.in_ok-finder.ensures; places = λ m low. absurd (omega arith) }

-- with the requests of one more place
pub loop-at-preserved : goal.loop-at-preserved
loop-at-preserved g c =
    let p = g.P.Protocol.table c.args.protocol.now.0 in
    let old = c.loop-at.finder.spots.items in
    let new = c.add_place.new.self.spots.items in
    let places = c.places-places.result.now in
    let pairs = c.in_ok-pairs.pairs.items in
    let at = c.loop-at.at in
    let before = c.loop-at.invariant in
    let found = c.in_ok-add_place.ensures in
    let more = found.more in
    let there : FindsPairs p new (get_or places at (FetchHit, Current)).0 (get_or places at (FetchHit, Current)).1 pairs (length pairs) =
    subst (λ (l : List Pair). FindsPairs p new (get_or places at (FetchHit, Current)).0 (get_or places at (FetchHit, Current)).1 l (length l)) c.deref.ensures.value found.pairs in
    record {
      finding = more.finding;
      places = places_step p old new pairs at more.kept before.places
          (subst (λ (l : List (Row × Side)). FindsPairs p new (get_or l at (FetchHit, Current)).0 (get_or l at (FetchHit, Current)).1 pairs (length pairs)) c.places-places.ensures there);
    }

-- all places have been followed
pub returns : goal.returns
returns g c =
    let p = g.P.Protocol.table c.args.protocol.now.0 in
    let pairs = c.in_ok-pairs.pairs.items in
    let found = c.loop-at.invariant in
    let nine : length c.places-places.result.now ≡ 9 = ap length c.places-places.ensures in
    let end : c.loop-at.at ≡ 9 = omega (arith, nine) in
    let finding = found.finding in
    record { met = all_met p pairs c.loop-at.finder c.in_ok-pairs.ensures finding (subst (FindsPlaces p c.loop-at.finder.spots.items pairs) end found.places); apart = finding.apart }
