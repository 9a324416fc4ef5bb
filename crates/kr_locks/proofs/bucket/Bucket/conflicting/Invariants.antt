use Rattle.std.proofs.Common.{◌≡◌, take, filter, map}
use Rattle.kr_locks.specs.Buckets.{holder_conflicts}
use Rattle.kr_locks.proofs.bucket.Bucket.conflicting.Given as goal

-- those of the holders so far that conflict
abbrev pub invariant-loop-holder : goal.invariant-loop-holder
invariant-loop-holder g l = l.list.items ≡ map (λ h. h.0) (filter (holder_conflicts (g.P.Protocol.table l.protocol) l.txn l.mode) (take l.holder-index l.holder-items))
