-- there are the transactions of the events so far
use Rattle.std.proofs.Common.{◌≡◌, take}
use Rattle.kr_explain_text.specs.Steps.{txns_of}
use Rattle.kr_explain_text.proofs.cells.txns_of.Given as goal

abbrev pub invariant-loop-event : goal.invariant-loop-event
invariant-loop-event l = l.txns.items ≡ txns_of (take l.event-index l.events)
