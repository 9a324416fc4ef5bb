use Rattle.std.proofs.Common.{subst, sym}
use Rattle.kr_locks.specs.Buckets.{IsHolders, HasModes}
use Rattle.kr_locks.proofs.HolderPlaces.{IsHolders-without}
use Rattle.kr_locks.proofs.bucket.Bucket.forget.Goals as goal

pub invariant_of-self : goal.invariant_of-self
invariant_of-self c = (subst IsHolders (sym c.leave.ensures) (IsHolders-without c.args.txn c.self.inside.holders.items c.self.invariant.0), subst (HasModes c.mask_of-self-inside.result) c.as_slice.ensures c.mask_of-self-inside.ensures)
