use Rattle.std.proofs.Common.{◌≡◌, ◌==◌, false, take}
use Rattle.std.specs.List.{list_any}
use Rattle.kr_records.proofs.wakes.is_held.Given as goal

-- none of the blockers so far has an entry
abbrev pub invariant-loop-blocker : goal.invariant-loop-blocker
invariant-loop-blocker l = list_any (λ u. list_any (λ w. w.txn == u) l.waits) (take l.blocker-index l.blockers) ≡ false
