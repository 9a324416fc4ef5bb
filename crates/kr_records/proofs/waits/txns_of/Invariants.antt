use Rattle.std.proofs.Common.{take}
use Rattle.kr_records.specs.Waits.{AreTxnsOf}
use Rattle.kr_records.proofs.waits.txns_of.Given as goal

-- there are the transactions of the operations so far
abbrev pub invariant-loop-event : goal.invariant-loop-event
invariant-loop-event l = AreTxnsOf l.txns.items (take l.event-index l.events)
