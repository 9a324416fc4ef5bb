use Rattle.kr_records.specs.Waits.{in_the_way, blockers_now}
use Rattle.kr_records.proofs.Deadlocked.{cycle_is_deadlocked, entries_of_all, entry_there}
use Rattle.kr_engine.proofs.wakes.deadlocked.Goals as goal

pub returns-clause-all : goal.returns-clause-all
returns-clause-all g c =
    let f = in_the_way (g.P.Protocol.table c.args.machine.now.protocol) c.args.machine.now.state in
    let now = blockers_now f c.args.noted.now in
    λ txns tied t there. entry_there now txns _ (c.shed_all.ensures.stay now txns tied (entries_of_all f c.args.noted.now _ c.in_ok-waits.ensures txns tied)) t there

pub returns-clause-cycles : goal.returns-clause-cycles
returns-clause-cycles g c =
    let f = in_the_way (g.P.Protocol.table c.args.machine.now.protocol) c.args.machine.now.state in
    let now = blockers_now f c.args.noted.now in
    λ txn cycle is t there.
    let tied = cycle_is_deadlocked now txn cycle is in
    entry_there now cycle _ (c.shed_all.ensures.stay now cycle tied (entries_of_all f c.args.noted.now _ c.in_ok-waits.ensures cycle tied)) t there
