use Rattle.std.proofs.Common.{◌≡◌, ◌==◌, false, take}
use Rattle.std.specs.List.{list_any}
use Rattle.kr_records.proofs.wakes.has_entry.Given as goal

-- none of the entries so far is of it
abbrev pub invariant-loop-wait : goal.invariant-loop-wait
invariant-loop-wait l = list_any (λ w. w.txn == l.txn) (take l.wait-index l.waits) ≡ false
