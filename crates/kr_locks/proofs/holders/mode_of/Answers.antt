use Rattle.kr_locks.proofs.HolderPlaces.{mode_at, no_mode}
use Rattle.kr_locks.proofs.holders.mode_of.Goals as goal

pub returns-in-Ok : goal.returns-in-Ok
returns-in-Ok c = mode_at c.args.holders.now c.requires c.args.txn c.in-Ok.place c.in-Ok.ensures _

pub returns-in-Err : goal.returns-in-Err
returns-in-Err c = no_mode c.args.holders.now c.requires c.args.txn c.in-Err.field-0 c.in-Err.ensures
