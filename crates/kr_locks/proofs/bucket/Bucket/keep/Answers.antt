use Rattle.std.proofs.Common.{subst, sym}
use Rattle.kr_locks.specs.Buckets.{IsHolders, HasModes}
use Rattle.kr_locks.proofs.HolderPlaces.{IsHolders-put}
use Rattle.kr_locks.proofs.bucket.Bucket.keep.Goals as goal

pub invariant_of-self-2 : goal.invariant_of-self-2
invariant_of-self-2 c = (subst IsHolders (sym c.in_ok-store.ensures.ok) (IsHolders-put c.args.txn c.args.mode c.self.inside.holders.items c.self.invariant.0), subst (HasModes c.mask_of-self-inside.result) c.as_slice.ensures c.mask_of-self-inside.ensures)
