use Rattle.std.proofs.Common.{◌≡◌, ◌∙◌, sym, ap, subst, true, false}
use Rattle.kr_model.specs.State.{State}
use Rattle.kr_model.specs.Step.{step}
use Rattle.kr_trace_follow.specs.Conflicts.{is_behind}
use Rattle.kr_trace_follow.specs.Lines.{Attempt}
use Rattle.kr_trace_follow.specs.Since.{Since, IsSince, last_noted, since_after}
use Rattle.kr_trace_follow.specs.Steps.{attempt_at, after_step}
use Rattle.kr_trace_follow.proofs.SinceLaws.{since_stays, since_done, since_waits}
use Rattle.kr_trace_follow.proofs.StepLaws.{behind_none, behind_some, empty_list, some_list}
use Rattle.kr_trace_follow.proofs.steps.attempt_in_turn.Goals as goal

pub returns-then-is_empty-clause-since : goal.returns-then-is_empty-clause-since
returns-then-is_empty-clause-since g c =
    let p = g.P.Protocol.table c.args.protocol.now in
    let old = c.args.stepper.now.state in
    let a : Attempt = attempt_at old c.args.op in
    let f = last_noted c.args.notes.now in
    let none = empty_list c.in_ok-ahead.ahead.items c.in_ok-ahead.ahead.len c.is_empty.result c.is_empty.ensures c.in_ok-ahead.ahead.ok.0 c.if-is_empty.true in
    let behind : is_behind p c.args.queue.now c.args.txn a ≡ false = behind_none p c.args.queue.now c.args.txn a c.in_ok-ahead.ahead.items c.in_ok-ahead.ensures none in
    let state : c.attempt.new.stepper.state ≡ after_step p c.args.txn a = c.in_ok-reply.ensures.state ∙ ap (λ z. (step z old c.args.txn c.args.op).1) c.requires.same in
    c.in_ok-reply.ensures.since ∙ ap (λ (s : State). since_after c.args.line old.locks s.locks f) state ∙ sym (since_done p c.args.queue.now c.args.txn c.args.line a f behind)

pub returns-then-is_empty-clause-is_since : goal.returns-then-is_empty-clause-is_since
returns-then-is_empty-clause-is_since g c =
    let old = c.args.stepper.now.state in
    let new = c.attempt.new.stepper.state in
    subst (λ (f : Since). IsSince new.locks f) (sym c.in_ok-reply.ensures.since) (since_stays c.args.line old.locks new.locks (last_noted c.args.notes.now))

pub returns-clause-since : goal.returns-clause-since
returns-clause-since g c =
    let p = g.P.Protocol.table c.args.protocol.now in
    let a : Attempt = attempt_at c.args.stepper.now.state c.args.op in
    let some = some_list c.in_ok-ahead.ahead.items c.in_ok-ahead.ahead.len c.is_empty.result c.is_empty.ensures c.in_ok-ahead.ahead.ok.0 c.if-is_empty.false in
    let behind : is_behind p c.args.queue.now c.args.txn a ≡ true = behind_some p c.args.queue.now c.args.txn a c.in_ok-ahead.ahead.items c.in_ok-ahead.ensures some in
    sym (since_waits p c.args.queue.now c.args.txn c.args.line a (last_noted c.args.notes.now) behind)
