use Rattle.std.proofs.Common.{◌≡◌, false, sym, ◌∙◌, ap}
use Rattle.kr_model.specs.Step.{Outcome}
use Rattle.kr_trace_follow.specs.Conflicts.{ahead_of}
use Rattle.kr_trace_follow.specs.Lines.{Attempt}
use Rattle.kr_trace_follow.specs.Steps.{is_passed, in_turn, attempt_at, after_step, last_step}
use Rattle.kr_trace_follow.proofs.StepLaws.{turn_done, behind_none, empty_list, some_list, goes_last, stops_last, ends_last, passes, stops_going, stops_behind}
use Rattle.kr_trace_follow.specs.Since.{last_noted}
use Rattle.kr_trace_follow.proofs.SinceLaws.{goes_since, stops_since, ends_since}
use Rattle.kr_trace_follow.proofs.steps.attempt_all.Goals as goal
use Rattle.kr_trace_follow.proofs.steps.attempt_all.Goals.{then-not-is_empty-via-then-not-is_empty, then-not-is_empty-via-else-not-is_empty+then-not-is_going}

pub returns-then-not-is_empty : goal.returns-then-not-is_empty
returns-then-not-is_empty g c =
    let p = g.P.Protocol.table c.args.protocol.now in
    let queue = c.args.queue.now in
    let t = c.args.txn in
    let a : Attempt = attempt_at c.loop.stepper.state c.loop.op in
    let stops : is_passed p queue t a ≡ false = elim c.then-not-is_empty.branch [
      | then-not-is_empty-via-then-not-is_empty w ↦ stops_behind p queue t a c.in_ok-ahead.ahead.items c.in_ok-ahead.ensures.ahead
          (some_list c.in_ok-ahead.ahead.items c.in_ok-ahead.ahead.len c.is_empty.result c.is_empty.ensures c.in_ok-ahead.ahead.ok.0 w.if-not-is_empty.true)
      | then-not-is_empty-via-else-not-is_empty+then-not-is_going w ↦ stops_going p queue t a c.in_ok-ahead.reply c.in_ok-ahead.ensures.reply (sym w.is_going.ensures ∙ w.if-not-is_going.true)
    ] in
    let last : ◌≡◌ {A = Attempt} a (last_step p queue t c.args.more (attempt_at c.args.stepper.now.state c.args.first)) =
    sym (stops_last p queue t c.args.more c.loop.counter a c.loop-test.true stops) ∙ c.loop.invariant.last in
    record {
      at_rest = c.in_ok-ahead.ensures.at_rest;
      protocol = c.in_ok-ahead.ensures.protocol ∙ c.loop.invariant.protocol;
      well_formed = c.in_ok-ahead.ensures.well_formed;
      noted = c.in_ok-ahead.ensures.noted;
      op = ap (λ (z : Attempt). z.op) last;
      ahead = c.in_ok-ahead.ensures.ahead ∙ ap (λ z. ahead_of p queue t z) last;
      reply = c.in_ok-ahead.ensures.reply ∙ ap (λ z. (in_turn p queue t z).0) last;
      state = c.in_ok-ahead.ensures.state ∙ ap (λ z. (in_turn p queue t z).1) last;
      since = c.in_ok-ahead.ensures.since ∙ sym (stops_since p queue t c.args.more c.loop.counter c.args.line a (last_noted c.loop.notes) c.loop-test.true stops) ∙ c.loop.invariant.since;
      is_since = c.in_ok-ahead.ensures.is_since;
    }

pub loop-preserved : goal.loop-preserved
loop-preserved g c =
    let p = g.P.Protocol.table c.args.protocol.now in
    let queue = c.args.queue.now in
    let t = c.args.txn in
    let a : Attempt = attempt_at c.loop.stepper.state c.loop.op in
    let none = empty_list c.in_ok-ahead.ahead.items c.in_ok-ahead.ahead.len c.is_empty.result c.is_empty.ensures c.in_ok-ahead.ahead.ok.0 c.if-not-is_empty.false in
    let passed = passes p queue t a c.in_ok-ahead.ahead.items c.in_ok-ahead.reply c.in_ok-ahead.ensures.ahead none c.in_ok-ahead.ensures.reply (sym c.is_going.ensures ∙ c.if-not-is_going.false) in
    let new : c.attempt_in_turn.new.stepper.state ≡ after_step p t a =
    c.in_ok-ahead.ensures.state ∙ ap (λ (d : Outcome). d.1) (turn_done p queue t a (behind_none p queue t a c.in_ok-ahead.ahead.items c.in_ok-ahead.ensures.ahead none)) in
    record {
      at_rest = c.in_ok-ahead.ensures.at_rest;
      protocol = c.in_ok-ahead.ensures.protocol ∙ c.loop.invariant.protocol;
      well_formed = c.in_ok-ahead.ensures.well_formed;
      noted = c.in_ok-ahead.ensures.noted;
      is_since = c.in_ok-ahead.ensures.is_since;
      since = goes_since p queue t c.args.more c.loop.counter c.args.line a c.attempt_in_turn.new.stepper.state (last_noted c.loop.notes) (last_noted c.attempt_in_turn.new.notes) c.loop-test.true passed new c.in_ok-ahead.ensures.since ∙ c.loop.invariant.since;
      last = goes_last p queue t c.args.more c.loop.counter a c.attempt_in_turn.new.stepper.state c.loop-test.true passed new ∙ c.loop.invariant.last;
    }

pub returns-clause-ahead : goal.returns-clause-ahead
returns-clause-ahead g c =
    let p = g.P.Protocol.table c.args.protocol.now in
    let a : Attempt = attempt_at c.loop.stepper.state c.loop.op in
    c.in_ok-ahead-2.ensures.ahead
    ∙ ap (λ z. ahead_of p c.args.queue.now c.args.txn z) (sym (ends_last p c.args.queue.now c.args.txn c.args.more c.loop.counter a c.loop-test.false) ∙ c.loop.invariant.last)

pub returns-clause-reply : goal.returns-clause-reply
returns-clause-reply g c =
    let p = g.P.Protocol.table c.args.protocol.now in
    let a : Attempt = attempt_at c.loop.stepper.state c.loop.op in
    c.in_ok-ahead-2.ensures.reply
    ∙ ap (λ z. (in_turn p c.args.queue.now c.args.txn z).0) (sym (ends_last p c.args.queue.now c.args.txn c.args.more c.loop.counter a c.loop-test.false) ∙ c.loop.invariant.last)

pub returns-clause-state : goal.returns-clause-state
returns-clause-state g c =
    let p = g.P.Protocol.table c.args.protocol.now in
    let a : Attempt = attempt_at c.loop.stepper.state c.loop.op in
    c.in_ok-ahead-2.ensures.state
    ∙ ap (λ z. (in_turn p c.args.queue.now c.args.txn z).1) (sym (ends_last p c.args.queue.now c.args.txn c.args.more c.loop.counter a c.loop-test.false) ∙ c.loop.invariant.last)

pub returns-clause-since : goal.returns-clause-since
returns-clause-since g c =
    let p = g.P.Protocol.table c.args.protocol.now in
    let a : Attempt = attempt_at c.loop.stepper.state c.loop.op in
    c.in_ok-ahead-2.ensures.since ∙ sym (ends_since p c.args.queue.now c.args.txn c.args.more c.loop.counter c.args.line a (last_noted c.loop.notes) c.loop-test.false) ∙ c.loop.invariant.since
