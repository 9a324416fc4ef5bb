use Rattle.std.proofs.Common.{subst, sym, ap, ◌∙◌}
use Rattle.kr_model.specs.Step.{IsStep}
use Rattle.kr_model.specs.WellFormed.{IsState}
use Rattle.kr_model.proofs.WellFormedLaws.{is_step_keeps_state}
use Rattle.kr_machine.proofs.Logged.{abort_told, commit_told, back_told}
use Rattle.kr_machine.proofs.machine.Machine.step.Goals as goal

pub returns-in-Some-clause-abort : goal.returns-in-Some-clause-abort
returns-in-Some-clause-abort g c is active =
    let old = c.args.self.now in
    abort_told (g.P.Protocol.table old.protocol) old.state c.args.txn c.args.op c.in-Some.reply c.step_at_once.new.self.state c.step_at_once.ensures.well_formed c.in-Some.ensures.step is active

pub returns-in-None-clause-abort : goal.returns-in-None-clause-abort
returns-in-None-clause-abort g c is active =
    let old = c.args.self.now in
    let stepped : IsStep (g.P.Protocol.table old.protocol) old.state c.args.txn c.args.op c.step_in_parts.result c.step_in_parts.new.self.state = subst (λ m. IsStep (g.P.Protocol.table m.protocol) m.state c.args.txn c.args.op c.step_in_parts.result c.step_in_parts.new.self.state) c.in-None.ensures.none c.step_in_parts.ensures.step in
    abort_told (g.P.Protocol.table old.protocol) old.state c.args.txn c.args.op c.step_in_parts.result c.step_in_parts.new.self.state c.step_at_once.ensures.well_formed stepped is active

pub returns-in-Some-clause-commit : goal.returns-in-Some-clause-commit
returns-in-Some-clause-commit g c is active =
    let old = c.args.self.now in
    commit_told (g.P.Protocol.table old.protocol) old.state c.args.txn c.args.op c.in-Some.reply c.step_at_once.new.self.state c.step_at_once.ensures.well_formed c.in-Some.ensures.step is active

pub returns-in-None-clause-commit : goal.returns-in-None-clause-commit
returns-in-None-clause-commit g c is active =
    let old = c.args.self.now in
    let stepped : IsStep (g.P.Protocol.table old.protocol) old.state c.args.txn c.args.op c.step_in_parts.result c.step_in_parts.new.self.state = subst (λ m. IsStep (g.P.Protocol.table m.protocol) m.state c.args.txn c.args.op c.step_in_parts.result c.step_in_parts.new.self.state) c.in-None.ensures.none c.step_in_parts.ensures.step in
    commit_told (g.P.Protocol.table old.protocol) old.state c.args.txn c.args.op c.step_in_parts.result c.step_in_parts.new.self.state c.step_at_once.ensures.well_formed stepped is active

pub returns-in-Some-clause-back : goal.returns-in-Some-clause-back
returns-in-Some-clause-back g c is active =
    let old = c.args.self.now in
    back_told (g.P.Protocol.table old.protocol) old.state c.args.txn c.args.op c.in-Some.reply c.step_at_once.new.self.state c.step_at_once.ensures.well_formed c.in-Some.ensures.step is active

pub returns-in-None-clause-back : goal.returns-in-None-clause-back
returns-in-None-clause-back g c is active =
    let old = c.args.self.now in
    let stepped : IsStep (g.P.Protocol.table old.protocol) old.state c.args.txn c.args.op c.step_in_parts.result c.step_in_parts.new.self.state = subst (λ m. IsStep (g.P.Protocol.table m.protocol) m.state c.args.txn c.args.op c.step_in_parts.result c.step_in_parts.new.self.state) c.in-None.ensures.none c.step_in_parts.ensures.step in
    back_told (g.P.Protocol.table old.protocol) old.state c.args.txn c.args.op c.step_in_parts.result c.step_in_parts.new.self.state c.step_at_once.ensures.well_formed stepped is active

pub returns-in-Some-clause-well_formed : goal.returns-in-Some-clause-well_formed
returns-in-Some-clause-well_formed g c =
    let old = c.args.self.now in
    subst (λ q. IsState (g.P.Protocol.table q) c.step_at_once.new.self.state) (sym c.step_at_once.ensures.protocol)
    (is_step_keeps_state (g.P.Protocol.table old.protocol) (g.met.P.Protocol.lawful old.protocol) old.state c.args.txn c.args.op c.in-Some.reply c.step_at_once.new.self.state c.step_at_once.ensures.well_formed c.in-Some.ensures.step)

pub returns-in-None-clause-well_formed : goal.returns-in-None-clause-well_formed
returns-in-None-clause-well_formed g c =
    let old = c.args.self.now in
    let stepped : IsStep (g.P.Protocol.table old.protocol) old.state c.args.txn c.args.op c.step_in_parts.result c.step_in_parts.new.self.state = subst (λ m. IsStep (g.P.Protocol.table m.protocol) m.state c.args.txn c.args.op c.step_in_parts.result c.step_in_parts.new.self.state) c.in-None.ensures.none c.step_in_parts.ensures.step in
    subst (λ q. IsState (g.P.Protocol.table q) c.step_in_parts.new.self.state) (sym (c.step_in_parts.ensures.protocol ∙ ap (λ m. m.protocol) c.in-None.ensures.none))
    (is_step_keeps_state (g.P.Protocol.table old.protocol) (g.met.P.Protocol.lawful old.protocol) old.state c.args.txn c.args.op c.step_in_parts.result c.step_in_parts.new.self.state c.step_at_once.ensures.well_formed stepped)
