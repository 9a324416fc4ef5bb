use Rattle.std.proofs.lemmas.Grind.{common_steps}
use Rattle.std.proofs.Common.{◌≢◌, [], List, All, subst, arith}
use Rattle.std.proofs.lemmas.List.{take_all}
use Rattle.kr_model.specs.declared.Event.{Event}
use Rattle.kr_records.specs.Waits.{in_the_way}
use Rattle.kr_engine.proofs.wakes.first_free.Goals as goal

pub returns : goal.returns
returns g c =
    let blocked : List Event → Type 0 = All (λ e. in_the_way (g.P.Protocol.table c.args.machine.now.protocol) c.args.machine.now.state e ≢ []) in
    λ _. subst blocked (take_all c.loop-event.event-index c.args.noted.now (omega (arith, c.loop-event-test.false))) c.loop-event.invariant

pub loop-event-preserved : goal.loop-event-preserved
loop-event-preserved g c = grind (arith, common_steps)
