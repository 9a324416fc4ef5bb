use Rattle.std.proofs.Common.{arith}
use Rattle.std.proofs.lemmas.Grind.{common_steps}
use Rattle.std.proofs.Common.{◌≡◌, sym, ap, subst, ◌∙◌, Some, IfSome}
use Rattle.kr_model.specs.Step.{step}
use Rattle.kr_model.specs.Log.{logged}
use Rattle.kr_model.specs.WellFormed.{IsState}
use Rattle.kr_model.proofs.WellFormedLaws.{step_keeps_state}
use Rattle.kr_machine.specs.declared.pending.DueReply.{DueReply}
use Rattle.kr_machine.specs.Due.{Due}
use Rattle.kr_machine.specs.Logged.{IsLogged, IsDue, twice}
use Rattle.kr_machine.proofs.Logged.{log_of_step, due_is}
use Rattle.kr_machine.proofs.machine.Machine.finish.Goals as goal

pub invariant_of-self : goal.invariant_of-self
invariant_of-self g c =
    let old = c.self.inside.stepper in
    let p = g.P.Protocol.table old.protocol in
    let e = c.args.ready.event in
    let waits : old.pending ≡ Some e = ap (λ v. v.pending) c.self.view_is ∙ c.requires in
    let due : IsDue p old.state c.self.inside.log c.self.inside.due e = subst (λ o. IfSome o (IsDue p old.state c.self.inside.log c.self.inside.due)) waits c.self.invariant.noted in
    let taken : c.unwrap-noted.result ≡ twice (step p old.state e.txn e.op).0 = due_is c.take.result c.unwrap-noted.result (twice (step p old.state e.txn e.op).0) (c.take.ensures.value ∙ due.0) c.unwrap-noted.ensures in
    let noted : c.note.new.self.log ≡ logged c.self.inside.log.log (e, (step p old.state e.txn e.op).0) = subst (λ (d : DueReply). c.note.new.self.log ≡ logged c.self.inside.log.log (e, d.noted)) taken (subst (λ (d : Due). c.note.new.self.log ≡ logged c.self.inside.log.log (d.event, c.unwrap-noted.result.noted)) c.ready.view_is c.note.ensures) in
    subst (λ n. IsLogged (g.P.Protocol.table n.protocol) n.state n.pending c.note.new.self c.take.new.self) (sym c.finish.ensures.machine) (log_of_step p (g.met.P.Protocol.lawful old.protocol) old.state e c.self.inside.log c.note.new.self c.take.new.self c.self.invariant.well_formed c.self.invariant.same noted)

pub returns-clause-well_formed : goal.returns-clause-well_formed
returns-clause-well_formed g c =
    let old = c.self.inside.stepper in
    let e = c.args.ready.event in
    subst (λ n. IsState (g.P.Protocol.table n.protocol) n.state) (sym c.finish.ensures.machine) (step_keeps_state (g.P.Protocol.table old.protocol) (g.met.P.Protocol.lawful old.protocol) old.state e.txn e.op c.self.invariant.well_formed)

pub returns-clause-reply : goal.returns-clause-reply
returns-clause-reply g c = grind (arith, common_steps)
