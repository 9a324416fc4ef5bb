use Rattle.kr_locks.proofs.Places.{own_place, own_gap}
use Rattle.kr_locks.proofs.list.own_in.Goals as goal

pub returns-in-Ok : goal.returns-in-Ok
returns-in-Ok c = own_place c.args.held.now c.requires c.args.txn c.args.name c.in-Ok.place c.in-Ok.ensures _

pub returns-in-Err : goal.returns-in-Err
returns-in-Err c = own_gap c.args.held.now c.requires c.args.txn c.args.name c.in-Err.field-0 c.in-Err.ensures
