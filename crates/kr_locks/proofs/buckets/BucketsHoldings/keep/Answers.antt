use Rattle.std.proofs.Common.{sym, subst}
use Rattle.kr_locks.specs.Buckets.{locks_of}
use Rattle.kr_locks.specs.Noted.{AreNoted}
use Rattle.kr_locks.proofs.NotedLaws.{AreNoted-forget, AreNoted-keep}
use Rattle.kr_locks.proofs.buckets.BucketsHoldings.keep.Goals as goal

pub invariant_of-self : goal.invariant_of-self
invariant_of-self c = (c.drop_lock.ensures.in_order, subst (AreNoted c.self.inside.held) (sym c.drop_lock.ensures.locks) (AreNoted-forget c.self.inside.held (locks_of c.self.inside.names.entries) c.args.txn c.args.name c.self.invariant.1))

pub invariant_of-self-2 : goal.invariant_of-self-2
invariant_of-self-2 c = (c.store.ensures.in_order, subst (AreNoted c.note_new.new.held) (sym c.in_ok-store.ensures.ok) (AreNoted-keep c.note_new.new.held (locks_of c.self.inside.names.entries) c.args.txn c.args.name c.args.mode c.note_new.ensures.all c.in_ok-note_new.ensures.noted))
