use Rattle.std.proofs.Common.{[], None, sym}
use Rattle.kr_locks.proofs.NameLaws.{changed_in, same_at}
use Rattle.kr_locks.proofs.names.take_out.Goals as goal

pub returns-clause-in_order : goal.returns-clause-in_order
returns-clause-in_order c = (changed_in c.args.names.now c.remove.new.self c.args.name c.key_of.result None c.key_of.ensures c.requires.in_order c.remove.ensures.unique c.remove.ensures.updates.0).after

pub returns-clause-locks : goal.returns-clause-locks
returns-clause-locks c = same_at c.args.names.now.entries _ c.args.name [] (changed_in c.args.names.now c.remove.new.self c.args.name c.key_of.result None c.key_of.ensures c.requires.in_order c.remove.ensures.unique c.remove.ensures.updates.0) (sym c.requires.empty)
