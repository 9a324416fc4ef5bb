use Rattle.std.proofs.Common.{sym, ◌∙◌, ap, map, ◌++◌}
use Rattle.kr_trace_follow.specs.Conflicts.{wanted}
use Rattle.kr_trace_follow.specs.Steps.{attempt_at}
use Rattle.kr_trace_follow.proofs.WaitLaws.{modes_left, modes_added, waits_no_more}
use Rattle.kr_trace_follow.proofs.waits.note_wait.Goals as goal

pub returns-in_ok-push_wanted-clause-modes : goal.returns-in_ok-push_wanted-clause-modes
returns-in_ok-push_wanted-clause-modes g c =
    let count = (g.P.Protocol.table c.args.protocol.now).count in
    modes_added count c.forget.new.waiting.items c.push_wanted.new.waiting.items c.in_ok-requests.requests.items
    (modes_left count c.args.waiting.now.items c.forget.new.waiting.items c.args.txn c.requires.modes c.forget.ensures) c.in_ok-requests.ensures.modes
    (c.in_ok-push_wanted.ensures ∙ ap (λ qs. c.forget.new.waiting.items ++ map wanted qs) c.deref.ensures.value)

pub returns-in_default : goal.returns-in_default
returns-in_default g c =
    let p = g.P.Protocol.table c.args.protocol.now in
    record {
      waiting = c.forget.ensures ∙ sym (waits_no_more p c.args.waiting.now.items c.args.txn (attempt_at c.args.stepper.now.state c.args.op) c.args.observed.now c.in_default.not-Blocked);
      modes = modes_left p.count c.args.waiting.now.items c.forget.new.waiting.items c.args.txn c.requires.modes c.forget.ensures;
    }
