use Rattle.std.proofs.Common.{ap, ◌∙◌, string_bytes}
use Rattle.kr_model.specs.Step.{step}
use Rattle.kr_explain_text.specs.Spoken.{locks_words}
use Rattle.kr_explain_text.specs.Steps.{row_of}
use Rattle.kr_explain_text.proofs.steps.step_line.Goals as goal

pub returns-clause-row : goal.returns-clause-row
returns-clause-row g c =
    let names = g.P.Protocol.names c.args.protocol.now in
    let o = step (g.P.Protocol.table c.args.machine.now.protocol.now) c.args.machine.now.state c.args.event.txn c.args.event.op in
    let held = c.as_slice.ensures.value ∙ (c.in_ok-held.ensures.locks ∙ ap (λ s. s.locks) c.in_ok-reply.ensures.state) in
    c.in_ok-row.ensures ∙ (ap (λ r. row_of c.args.txns.now c.args.number c.args.event r (string_bytes c.in_ok-locks.locks) c.args.mark.now) c.in_ok-reply.ensures.reply ∙ ap (λ w. row_of c.args.txns.now c.args.number c.args.event o.0 w c.args.mark.now) (c.in_ok-locks.ensures ∙ ap (locks_words names) held))
