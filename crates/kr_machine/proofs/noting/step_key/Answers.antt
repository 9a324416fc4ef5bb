use Rattle.std.proofs.Common.{subst, ap, ◌∙◌}
use Rattle.kr_model.specs.declared.Op.{Op}
use Rattle.kr_model.specs.Log.{logged}
use Rattle.kr_model.specs.Step.{IsStep}
use Rattle.kr_machine.proofs.KeyReplies.{key_plain}
use Rattle.kr_machine.proofs.noting.step_key.Goals as goal

pub note_copy-requires-clause-plain : goal.note_copy-requires-clause-plain
note_copy-requires-clause-plain g c =
    let old = c.args.stepper.now in
    let p = g.P.Protocol.table old.protocol in
    let stepped = subst (λ (o : Op). IsStep p old.state c.args.txn o c.step-reply.result c.step-reply.new.self.state) c.op-op.ensures c.step-reply.ensures.step in
    key_plain p old.state c.args.txn c.args.touch c.step-reply.result c.step-reply.new.self.state stepped

pub returns-clause-step : goal.returns-clause-step
returns-clause-step g c =
    let old = c.args.stepper.now in
    subst (λ (o : Op). IsStep (g.P.Protocol.table old.protocol) old.state c.args.txn o c.step-reply.result c.step-reply.new.self.state) c.op-op.ensures c.step-reply.ensures.step

pub returns-clause-log : goal.returns-clause-log
returns-clause-log g c = c.note_copy.ensures ∙ ap (λ (o : Op). logged c.args.log.now.log (record { txn = c.args.txn; op = o }, c.step-reply.result)) c.op-op.ensures
