use Rattle.std.proofs.Common.{◌∙◌, Option, ap, ap₂}
use Rattle.kr_model.specs.declared.Event.{Event}
use Rattle.kr_model.specs.declared.Reply.{Reply}
use Rattle.kr_model.specs.Log.{Log, logged}
use Rattle.kr_cli.specs.GhostTables.{ghosts_of}
use Rattle.kr_embed.specs.Recorded.{settled}
use Rattle.kr_embed.proofs.Recorded.{stepped}
use Rattle.kr_embed.proofs.leaving.LeavingSession.step.Goals as goal

-- The log has the step, or is owed its reply.
pub invariant_of-self-in-Ok-3 : goal.invariant_of-self-in-Ok-3
invariant_of-self-in-Ok-3 c =
    let own = c.self.inside in
    let noted = c.note-self-inside in
    let e : Event = record { txn = c.args.txn; op = c.args.op } in
    let r = c.in-Ok.reply in
    let before = c.in-Ok.ensures.log ∙ c.settle.ensures ∙ ap₂ (λ (o : Option Event) (w : Reply). settled own.log.log o w) c.take.ensures.value c.replace-last.ensures.value in
    stepped (ghosts_of own.stepper.protocol) own.stepper.state c.attempt.new.stepper.state own.log noted.new.log own.owed noted.result own.last r e c.self.invariant c.in-Ok.ensures.step
    (noted.ensures.settled ∙ ap (λ (z : Log). logged z (e, r)) before) noted.ensures.owed
