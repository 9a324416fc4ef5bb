use Rattle.std.proofs.Common.{◌∙◌}
use Rattle.kr_locks.proofs.Places.{put_at, put_into, find_gap_none}
use Rattle.kr_locks.proofs.list.store.Goals as goal

-- memory fails only for a lock that was not there
pub returns-in_err-insert-in-Err-clause-there : goal.returns-in_err-insert-in-Err-clause-there
returns-in_err-insert-in-Err-clause-there c some = absurd (some (find_gap_none c.args.held.now.items c.requires c.args.txn c.args.name c.in-Err.place (rw (← c.deref.ensures.value) c.in-Err.ensures)))

pub returns-in-Ok-clause-ok : goal.returns-in-Ok-clause-ok
returns-in-Ok-clause-ok c = put_at c.args.held.now.items c.requires c.args.txn c.args.name c.in-Ok.place (rw (← c.deref.ensures.value) c.in-Ok.ensures) c.args.mode

pub returns-in_ok-insert-in-Err-clause-ok : goal.returns-in_ok-insert-in-Err-clause-ok
returns-in_ok-insert-in-Err-clause-ok c = c.in_ok-insert-in-Err.ensures.items ∙ put_into c.args.held.now.items c.requires c.args.txn c.args.name c.in-Err.place (rw (← c.deref.ensures.value) c.in-Err.ensures) c.args.mode
