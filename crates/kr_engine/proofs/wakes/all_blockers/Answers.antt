use Rattle.std.proofs.Common.{List, refl, subst}
use Rattle.std.specs.List.{AllZip}
use Rattle.std.proofs.lemmas.List.{take_all}
use Rattle.kr_model.specs.declared.Event.{Event}
use Rattle.kr_model.specs.declared.Op.TheVariants as op
use Rattle.kr_records.specs.Waits.{IsEntry, in_the_way}
use Rattle.kr_records.proofs.Blockers.{all_push}
use Rattle.kr_engine.proofs.wakes.all_blockers.Goals as goal

pub loop-event-preserved : goal.loop-event-preserved
loop-event-preserved g c =
    let nothing : Event = record { txn = 0; op = op.Fetch 0 } in
    all_push (in_the_way (g.P.Protocol.table c.args.machine.now.protocol) c.args.machine.now.state) c.args.noted.now c.loop-event.event-index nothing c.loop-event.waits.items _ _ c.loop-event.invariant c.loop-event-test.true
    (record { txn = refl; blockers_are = c.in_ok-blockers.ensures }) c.in_ok-push.ensures.items

pub returns : goal.returns
returns g c =
    let f = in_the_way (g.P.Protocol.table c.args.machine.now.protocol) c.args.machine.now.state in
    subst (λ (es : List Event). AllZip (IsEntry f) es c.loop-event.waits.items) (take_all c.loop-event.event-index c.args.noted.now c.loop-event-test.false) c.loop-event.invariant
