use Rattle.std.proofs.Common.{sym, subst}
use Rattle.kr_model.specs.Locks.{AreWithin}
use Rattle.kr_model.proofs.Keep.{AreWithin-keep}
use Rattle.kr_crates_tests.proofs.tests.steps.plan.hold.Goals as goal

pub returns : goal.returns
returns g c =
    let count = (g.P.Protocol.table c.args.protocol.now).count in
    subst (AreWithin count) (sym c.in_ok-keep.ensures.ok) (AreWithin-keep count (g.L.Holdings.locks c.args.locks.now) c.args.txn c.args.name c.args.mode c.requires.held c.requires.mode)
