use Rattle.std.proofs.Common.{sym, subst, arith}
use Rattle.kr_model.specs.Locks.{AreWithin}
use Rattle.kr_model.proofs.Keep.{AreWithin-keep}
use Rattle.kr_view_scenes.proofs.asked.hold.Goals as goal

pub returns : goal.returns
returns g c =
    let count = (g.P.Protocol.table c.args.protocol.now).count in
    subst (AreWithin count) (sym c.in_ok-keep.ensures.ok) (AreWithin-keep count c.args.locks.now c.args.lock.1 c.args.lock.0 c.args.mode c.requires (omega (arith, c.count.ensures)))
