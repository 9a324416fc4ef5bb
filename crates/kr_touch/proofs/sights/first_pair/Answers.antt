use Rattle.kr_model.specs.Map.{at}
use Rattle.kr_touch.proofs.Sighted.{pair_is}
use Rattle.kr_touch.proofs.sights.first_pair.Goals as goal

pub returns : goal.returns
returns g c =
    let m = g.I.Ordered.map c.args.index.now in
    pair_is m (at m c.args.lo) c.pair_from.result c.pair_from.ensures.none c.pair_from.ensures.name c.pair_from.ensures.value
