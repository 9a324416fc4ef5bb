use Rattle.std.proofs.Common.{sym, subst}
use Rattle.kr_model.specs.Locks.{AreWithin}
use Rattle.kr_model.proofs.Keep.{AreWithin-keep}
use Rattle.kr_crates_tests.proofs.tests.steps.locks.hold.Goals as goal

pub returns : goal.returns
returns g c = subst (AreWithin 2) (sym c.in_ok-keep.ensures.ok) (AreWithin-keep 2 (g.H.Holdings.locks c.args.locks.now) c.args.txn c.args.name c.args.mode c.requires.held c.requires.mode)
