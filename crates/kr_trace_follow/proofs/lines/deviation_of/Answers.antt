use Rattle.std.proofs.Common.{◌≡◌, sym, ◌∙◌, ap, subst}
use Rattle.kr_trace_follow.specs.Deviates.{is_queued, since_left}
use Rattle.kr_trace_follow.specs.Lines.{Line}
use Rattle.kr_trace_follow.specs.Scans.{AreNoted}
use Rattle.kr_trace_follow.specs.Since.{Since, last_noted, lines_of}
use Rattle.kr_trace_follow.specs.Steps.{queue_for}
use Rattle.kr_trace_follow.proofs.LineLaws.{IsFollowed, state_is, line_deviates, line_queued, line_since, line_listed, line_waits}
use Rattle.kr_trace_follow.proofs.lines.deviation_of.Goals as goal

pub returns : goal.returns
returns g c =
    let p = g.P.Protocol.table c.args.protocol.now in
    let w = c.args.waiting.now.items in
    let s = c.args.stepper.now.state in
    let l : Line = record { number = c.args.number; event = c.args.event; observed = c.args.observed.now } in
    let queue = c.queue_for-queue.result.now in
    let first = c.first_op-first.result in
    let more = c.more_steps-more.result in
    let new = c.attempt_all.new.stepper.state in
    let f : IsFollowed p w s l queue first more c.in_ok-last.last.op c.in_ok-last.last.ahead.items c.in_ok-last.last.reply new = record {
      queue_is = c.queue_for-queue.ensures ∙ ap (λ z. queue_for c.args.observed.now z) c.deref-2.ensures.value;
      first_is = c.first_op-first.ensures s c.args.number (subst (λ xs. AreNoted s xs) (sym c.deref.ensures.value) c.requires.noted);
      more_is = c.more_steps-more.ensures;
      op = c.in_ok-last.ensures.op;
      ahead_is = c.in_ok-last.ensures.ahead;
      reply = c.in_ok-last.ensures.reply;
      state = c.in_ok-last.ensures.state;
    } in
    let was : Since = last_noted c.args.notes.now in
    let now : Since = last_noted c.attempt_all.new.notes in
    let since : now ≡ since_left p (lines_of s.locks was) w s l =
    line_since p w s l queue first more c.in_ok-last.last.op c.in_ok-last.last.ahead.items c.in_ok-last.last.reply new f was now c.requires.since c.in_ok-last.ensures.since in
    record {
      at_rest = c.in_ok-last.ensures.at_rest;
      protocol = c.in_ok-last.ensures.protocol;
      well_formed = c.in_ok-last.ensures.well_formed;
      noted = c.in_ok-last.ensures.noted;
      is_since = c.in_ok-last.ensures.is_since;
      modes = c.in_ok-note_wait.ensures.modes;
      deviates = c.deviation_at.ensures
          ∙ line_deviates p w s l queue first more c.in_ok-last.last.op c.in_ok-last.last.ahead.items c.in_ok-last.last.reply new f (lines_of s.locks was) now since c.in_ok-kind.kind
          c.in_ok-kind.ensures;
      queued = c.is_queued-queued.ensures ∙ ap (λ us. is_queued us c.in_ok-last.last.reply) c.deref-3.ensures.value
          ∙ line_queued p w s l queue first more c.in_ok-last.last.op c.in_ok-last.last.ahead.items c.in_ok-last.last.reply new f;
      state = state_is p w s l queue first more c.in_ok-last.last.op c.in_ok-last.last.ahead.items c.in_ok-last.last.reply new f;
      since = line_listed p w s l queue first more c.in_ok-last.last.op c.in_ok-last.last.ahead.items c.in_ok-last.last.reply new f was now since;
      waiting = line_waits p w s l queue first more c.in_ok-last.last.op c.in_ok-last.last.ahead.items c.in_ok-last.last.reply new f c.note_wait.new.waiting.items c.in_ok-note_wait.ensures.waiting;
    }
