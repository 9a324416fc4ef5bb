use Rattle.std.proofs.Common.{◌≡◌, ◌==◌, ◌||◌, false, take}
use Rattle.std.specs.List.{list_any}
use Rattle.kr_records.proofs.waits.may_close.Given as goal

-- none of those so far is it or has an operation
abbrev pub invariant-loop-blocker : goal.invariant-loop-blocker
invariant-loop-blocker l = list_any (λ u. (u == l.txn) || list_any (λ e. e.txn == u) l.noted) (take l.blocker-index l.own) ≡ false
