use Rattle.std.proofs.Common.{refl}
use Rattle.kr_model.specs.declared.Event.{Event}
use Rattle.kr_model.specs.declared.Op.TheVariants as op
use Rattle.kr_records.specs.Waits.{in_the_way}
use Rattle.kr_records.proofs.Blockers.{entries_push, entries_all}
use Rattle.kr_engine.proofs.waits.entries.Goals as goal

pub loop-other-preserved : goal.loop-other-preserved
loop-other-preserved g c =
    let nothing : Event = record { txn = 0; op = op.Fetch 0 } in
    entries_push (in_the_way (g.P.Protocol.table c.args.machine.now.protocol) c.args.machine.now.state) c.args.event c.args.noted.now c.loop-other.other-index nothing c.loop-other.waits.items _ _ c.loop-other.invariant c.loop-other-test.true
    (record { txn = refl; blockers_are = c.in_ok-blockers.ensures }) c.in_ok-push-2.ensures.items

pub returns : goal.returns
returns g c = entries_all (in_the_way (g.P.Protocol.table c.args.machine.now.protocol) c.args.machine.now.state) c.args.event c.args.noted.now c.loop-other.other-index c.loop-other.waits.items c.loop-other.invariant c.loop-other-test.false
