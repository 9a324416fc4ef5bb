use Rattle.kr_model.specs.declared.Event.{Event}
use Rattle.kr_model.specs.declared.Op.TheVariants as op
use Rattle.kr_records.proofs.Waiters.{txns_more, txns_all}
use Rattle.kr_records.proofs.waits.txns_of.Goals as goal

pub loop-event-preserved : goal.loop-event-preserved
loop-event-preserved c =
    let nothing : Event = record { txn = 0; op = op.Fetch 0 } in
    txns_more c.args.events.now c.loop-event.event-index nothing c.loop-event.txns.items _ c.loop-event.invariant c.loop-event-test.true c.in_ok-put_once.ensures.items

pub returns : goal.returns
returns c = txns_all c.args.events.now c.loop-event.event-index c.loop-event.txns.items c.loop-event.invariant c.loop-event-test.false
