use Rattle.std.proofs.Common.{refl}
use Rattle.kr_alike.proofs.Growing.{found_start}
use Rattle.kr_alike.proofs.found.Found.new.Goals as goal

pub returns : goal.returns
returns g c =
    found_start (g.P.Protocol.table c.args.first.now) (g.Q.Protocol.table c.args.second.now) c.args.coming.now (g.met.P.Protocol.lawful c.args.first.now) (g.met.Q.Protocol.lawful c.args.second.now)
    _ c.in_ok-marks.marks.items _ c.place.result refl c.place.ensures (let h = c.in_ok-marks.ensures in h.items_if_clones_equal (λ y e. e)) refl refl
