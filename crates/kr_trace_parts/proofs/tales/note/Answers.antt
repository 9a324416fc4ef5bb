use Rattle.std.specs.Prelude.{◌==◌, cond}
use Rattle.std.proofs.Common.{ap, ap₂, ◌∙◌, sym}
use Rattle.kr_trace_follow.specs.Programs.{Tale, tale_after}
use Rattle.kr_trace_parts.specs.Tales.{noted, shown}
use Rattle.kr_trace_parts.proofs.TaleLaws.{put_back, told_granted}
use Rattle.kr_trace_parts.proofs.tales.note.Goals as goal

pub returns-in_ok-put_in-in_default : goal.returns-in_ok-put_in-in_default
returns-in_ok-put_in-in_default c =
    let old = noted c.args.tales.now in
    let t = c.args.event.txn in
    let now : Tale = shown c.in_ok-tale_after-in_default.field-0 in
    let granted = told_granted old c.args.event c.args.observed c.in_default.not-Undone c.in_default.not-Committed c.in_default.not-Aborted c.in_default.not-Blocked in
    record {
      told = λ u. c.in_ok-put_in-in_default.ensures u
          ∙ ap (λ (z : Tale). cond (u == t) now z) (c.take_out-tale.ensures.rest u)
          ∙ put_back (u == t) now (old u)
          ∙ ap (λ (x : Tale). cond (u == t) x (old u)) (c.in_ok-tale_after-in_default.ensures
          ∙ ap (λ (x : Tale). tale_after x c.upwards.result c.answer_upwards-answer.result) c.take_out-tale.ensures.tale
          ∙ ap₂ (λ o a. tale_after (old t) o a) c.upwards.ensures c.answer_upwards-answer.ensures)
          ∙ sym (granted.0 u);
      program = sym (granted.1 (old t));
    }
