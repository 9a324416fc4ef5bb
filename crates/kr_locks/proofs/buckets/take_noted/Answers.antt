use Rattle.kr_locks.proofs.NotedLaws.{others_noted}
use Rattle.kr_locks.proofs.buckets.take_noted.Goals as goal

pub returns-clause-kept : goal.returns-clause-kept
returns-clause-kept c t n apart here = others_noted c.args.held.now c.remove.new.self c.args.txn c.remove.ensures.updates.0 t n apart here
