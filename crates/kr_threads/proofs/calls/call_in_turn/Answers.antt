use Rattle.kr_threads.proofs.Told.{prefix_more, told_after_blocked, next_after}
use Rattle.kr_threads.proofs.calls.call_in_turn.Goals as goal

pub returns-clause-begins : goal.returns-clause-begins
returns-clause-begins g c = prefix_more c.args.seat.now.view c.try_call-result.new.self.view c.call-2.new.self.view c.try_call-result.ensures.begins c.call-2.ensures.begins

pub returns-clause-done : goal.returns-clause-done
returns-clause-done g c =
    next_after g.K.EngineName.table g.K.EngineName.opening c.args.seat.now c.try_call-result.new.self _ c.args.op c.call-2.result c.try_call-result.ensures.begins c.call-2.ensures.done

pub returns-clause-fault : goal.returns-clause-fault
returns-clause-fault g c =
    told_after_blocked g.K.EngineName.table g.K.EngineName.opening c.args.seat.now c.try_call-result.new.self _ c.args.op c.try_call-result.result c.call-2.result c.is_blocked.result
    c.if-not-is_blocked.false c.is_blocked.ensures.ok c.is_blocked.ensures.err c.try_call-result.ensures.fault c.call-2.ensures.fault
