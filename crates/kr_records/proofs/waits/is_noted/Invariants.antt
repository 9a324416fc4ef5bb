use Rattle.std.proofs.Common.{◌≡◌, ◌==◌, false, take}
use Rattle.std.specs.List.{list_any}
use Rattle.kr_records.proofs.waits.is_noted.Given as goal

-- none of the operations so far is of it
abbrev pub invariant-loop-event : goal.invariant-loop-event
invariant-loop-event l = list_any (λ e. e.txn == l.txn) (take l.event-index l.noted) ≡ false
