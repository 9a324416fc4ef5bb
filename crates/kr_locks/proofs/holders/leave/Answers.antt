use Rattle.std.proofs.Common.{◌∙◌}
use Rattle.kr_locks.proofs.HolderPlaces.{left_at, left_gap}
use Rattle.kr_locks.proofs.holders.leave.Goals as goal

pub returns-in-Ok : goal.returns-in-Ok
returns-in-Ok c = c.remove.ensures.items ∙ left_at c.args.holders.now.items c.requires c.args.txn c.in-Ok.place (rw (← c.as_slice.ensures) c.in-Ok.ensures)

pub returns-in_default : goal.returns-in_default
returns-in_default c = left_gap c.args.holders.now.items c.requires c.args.txn c.in_default.field-0 (rw (← c.as_slice.ensures) c.in_default.ensures)
