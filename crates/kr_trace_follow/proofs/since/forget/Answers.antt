use Rattle.kr_trace_follow.proofs.Notes.{noted_less}
use Rattle.kr_trace_follow.proofs.since.forget.Goals as goal

pub returns : goal.returns
returns c = noted_less c.args.notes.now c.remove.new.self c.args.txn c.remove.ensures.updates.0
