use Rattle.std.proofs.Common.{◌∙◌}
use Rattle.kr_locks.proofs.Places.{forget_at, forget_gap}
use Rattle.kr_locks.proofs.list.forget.Goals as goal

pub returns-in-Ok : goal.returns-in-Ok
returns-in-Ok c = c.remove.ensures.items ∙ forget_at c.args.held.now.items c.requires c.args.txn c.args.name c.in-Ok.place (rw (← c.deref.ensures.value) c.in-Ok.ensures)

pub returns-in_default : goal.returns-in_default
returns-in_default c = forget_gap c.args.held.now.items c.requires c.args.txn c.args.name c.in_default.field-0 (rw (← c.deref.ensures.value) c.in_default.ensures)
