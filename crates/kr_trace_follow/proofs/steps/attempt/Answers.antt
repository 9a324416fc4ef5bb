use Rattle.std.proofs.Common.{◌≡◌, ◌∙◌, ap, rules}
use Rattle.kr_model.specs.declared.Refusal.TheVariants as refusal
use Rattle.kr_model.specs.declared.Reply.TheVariants as reply
use Rattle.kr_model.proofs.WellFormedLaws.{is_step_keeps_state}
use Rattle.kr_trace_follow.specs.Since.{has_ended, last_noted, with_changes}
use Rattle.kr_trace_follow.proofs.ScanLaws.{noted_stepped}
use Rattle.kr_trace_follow.proofs.SinceLaws.{since_stepped}
use Rattle.kr_trace_follow.proofs.steps.attempt.Goals as goal

pub returns-then-lacks_memory-clause-well_formed : goal.returns-then-lacks_memory-clause-well_formed
returns-then-lacks_memory-clause-well_formed g c =
    let own = c.args.stepper.now in
    is_step_keeps_state (g.P.Protocol.table own.protocol) (g.met.P.Protocol.lawful own.protocol) own.state c.args.txn c.args.op c.step-reply.result c.step-reply.new.self.state c.requires.well_formed c.step-reply.ensures.step

pub returns-in_err-note-clause-well_formed : goal.returns-in_err-note-clause-well_formed
returns-in_err-note-clause-well_formed g c =
    let own = c.args.stepper.now in
    is_step_keeps_state (g.P.Protocol.table own.protocol) (g.met.P.Protocol.lawful own.protocol) own.state c.args.txn c.args.op c.step-reply.result c.step-reply.new.self.state c.requires.well_formed c.step-reply.ensures.step

pub returns-clause-well_formed : goal.returns-clause-well_formed
returns-clause-well_formed g c =
    let own = c.args.stepper.now in
    is_step_keeps_state (g.P.Protocol.table own.protocol) (g.met.P.Protocol.lawful own.protocol) own.state c.args.txn c.args.op c.step-reply.result c.step-reply.new.self.state c.requires.well_formed c.step-reply.ensures.step

pub returns-clause-noted : goal.returns-clause-noted
returns-clause-noted g c =
    let own = c.args.stepper.now in
    let had : c.step-reply.result ≡ reply.Refused refusal.Memory → ⊥ = search rules in
    noted_stepped (g.P.Protocol.table own.protocol) own.state c.args.scans.now.items c.args.txn c.args.op c.step-reply.result c.step-reply.new.self.state c.note.new.scans.items c.requires.noted c.step-reply.ensures.step had c.in_ok-note.ensures

pub returns-in_err-note_locks-clause-well_formed : goal.returns-in_err-note_locks-clause-well_formed
returns-in_err-note_locks-clause-well_formed g c =
    let own = c.args.stepper.now in
    is_step_keeps_state (g.P.Protocol.table own.protocol) (g.met.P.Protocol.lawful own.protocol) own.state c.args.txn c.args.op c.step-reply.result c.step-reply.new.self.state c.requires.well_formed c.step-reply.ensures.step

pub returns-clause-since : goal.returns-clause-since
returns-clause-since g c =
    let own = c.args.stepper.now in
    let new = c.step-reply.new.self.state in
    let f = last_noted c.args.notes.now in
    let had : c.step-reply.result ≡ reply.Refused refusal.Memory → ⊥ = search rules in
    c.in_ok-note_locks.ensures
    ∙ ap (λ b. with_changes c.args.line new.locks c.args.txn b (has_ended c.step-reply.result) f) c.own_before-before.ensures
    ∙ since_stepped (g.P.Protocol.table own.protocol) (g.met.P.Protocol.lawful own.protocol) own.state c.args.txn c.args.op c.args.line f c.step-reply.result new c.requires.well_formed c.requires.since c.step-reply.ensures.step had
