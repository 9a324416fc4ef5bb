use Rattle.std.proofs.Common.{◌≡◌, sym, ap, subst, ◌∙◌, None}
use Rattle.kr_model.specs.declared.Event.{Event}
use Rattle.kr_model.specs.declared.Op.{Op}
use Rattle.kr_model.specs.Step.{IsStep}
use Rattle.kr_model.specs.Log.{Log, logged}
use Rattle.kr_touch.specs.Parts.{op_of, op_of_key, op_of_touch}
use Rattle.kr_machine.specs.Logged.{IsLogged}
use Rattle.kr_machine.proofs.Logged.{log_of_any_step}
use Rattle.kr_machine.proofs.machine.Machine.step_at_once.Goals as goal

pub invariant_of-self : goal.invariant_of-self
invariant_of-self g c =
    let old = c.self.inside.stepper in
    let new = c.step_key.new.stepper in
    let p = g.P.Protocol.table old.protocol in
    let e : Event = record { txn = c.args.txn; op = op_of_key c.in-Touch-Key.touch } in
    let noted : c.step_key.new.log.log ≡ logged c.self.inside.log.log (e, c.step_key.result) = c.step_key.ensures.log ∙ ap (λ (l : Log). logged l (e, c.step_key.result)) c.make_room.ensures.log in
    let logs = log_of_any_step p (g.met.P.Protocol.lawful old.protocol) old.state new.state e c.step_key.result c.self.inside.log c.step_key.new.log c.self.inside.due c.self.invariant.well_formed c.self.invariant.same c.step_key.ensures.step noted in
    subst (λ o. IsLogged (g.P.Protocol.table new.protocol) new.state o c.step_key.new.log c.self.inside.due) (sym c.step_key.ensures.at_rest)
    (subst (λ q. IsLogged (g.P.Protocol.table q) new.state None c.step_key.new.log c.self.inside.due) (sym c.step_key.ensures.protocol) logs)

pub returns-in-Ok-clause-step : goal.returns-in-Ok-clause-step
returns-in-Ok-clause-step g c =
    let new = c.step_key.new.stepper in
    let op_is : op_of_key c.in-Touch-Key.touch ≡ c.args.op = ap op_of_touch (sym c.in-Touch-Key.field-0-is) ∙ ap op_of (sym c.in-Touch-Key.is) ∙ c.of.ensures in
    subst (λ (o : Op). IsStep (g.P.Protocol.table c.args.self.now.protocol) c.args.self.now.state c.args.txn o c.step_key.result new.state) op_is
    (subst (λ v. IsStep (g.P.Protocol.table v.protocol) v.state c.args.txn (op_of_key c.in-Touch-Key.touch) c.step_key.result new.state) c.self.view_is c.step_key.ensures.step)

pub returns-in-Ok-clause-log : goal.returns-in-Ok-clause-log
returns-in-Ok-clause-log g c =
    let op_is : op_of_key c.in-Touch-Key.touch ≡ c.args.op = ap op_of_touch (sym c.in-Touch-Key.field-0-is) ∙ ap op_of (sym c.in-Touch-Key.is) ∙ c.of.ensures in
    c.step_key.ensures.log
    ∙ ap (λ (l : Log). logged l (record { txn = c.args.txn; op = op_of_key c.in-Touch-Key.touch }, c.step_key.result)) (c.make_room.ensures.log ∙ ap (λ v. v.log) c.self.view_is)
    ∙ ap (λ (o : Op). logged c.args.self.now.log (record { txn = c.args.txn; op = o }, c.step_key.result)) op_is
