use Rattle.std.proofs.Common.{◌≡◌, [], take, filter}
use Rattle.kr_locks.specs.Buckets.{holder_conflicts}
use Rattle.kr_locks.proofs.bucket.Bucket.is_free.Given as goal

-- no holder so far conflicts
abbrev pub invariant-loop-holder : goal.invariant-loop-holder
invariant-loop-holder g l = filter (holder_conflicts (g.P.Protocol.table l.protocol) l.txn l.mode) (take l.holder-index l.holder-items) ≡ []
