use Rattle.std.proofs.Common.{◌≡◌, ◌∙◌, sym, ap, subst, Some, Option}
use Rattle.std.specs.Option.{option_map, IfSome}
use Rattle.kr_model.specs.Log.{step_logged}
use Rattle.kr_txn.specs.declared.unfinished.Ready.{Ready}
use Rattle.kr_txn.specs.declared.logging.Logging.TheVariants.{Committing}
use Rattle.kr_txn.specs.Logs.{entries, txn_of, MayNoteAs, LogWithRoom, IsReady}
use Rattle.kr_txn.proofs.LogSteps.{is_ready, room_to_commit, step_noted}
use Rattle.kr_txn.proofs.log.Log.note.Goals as goal

pub commit-requires-clause-room : goal.commit-requires-clause-room
commit-requires-clause-room c =
    let may = c.in-Committing.ensures.may_note c.args.self.now c.args.event c.requires in
    room_to_commit c.self.inside.unfinished c.self.inside.committed c.self.inside.ready c.args.event.txn c.self.invariant.is_ready
    (subst (λ (l : LogWithRoom). MayNoteAs Committing l c.args.event) (sym c.self.view_is) may)

pub do_step-requires-clause-memory : goal.do_step-requires-clause-memory
do_step-requires-clause-memory c =
    let taken : c.self.inside.ready ≡ Some c.in-Some.ready = sym c.take.ensures.value ∙ c.in-Some.is in
    let is : IsReady c.self.inside.unfinished c.self.inside.committed c.in-Some.ready = subst (λ (x : Option Ready). IfSome x (IsReady c.self.inside.unfinished c.self.inside.committed)) taken c.self.invariant.is_ready in
    is.memory

pub returns-in-Some : goal.returns-in-Some
returns-in-Some c =
    let r = c.in-Some.ready in
    let taken : c.self.inside.ready ≡ Some r = sym c.take.ensures.value ∙ c.in-Some.is in
    let may = c.in-Operation.ensures.may_note c.args.self.now c.args.event c.requires in
    let same : Some (txn_of r) ≡ Some c.args.event.txn = ap (option_map txn_of) (sym taken) ∙ ap (λ (l : LogWithRoom). l.ready) c.self.view_is ∙ may in
    step_noted (txn_of r) c.args.event c.args.reply (entries c.self.inside.unfinished.items) (entries c.do_step.new.list.items) c.self.inside.committed.items same c.do_step.ensures.items
    ∙ ap (λ (l : LogWithRoom). step_logged l.log c.args.event.txn c.args.event.op c.args.reply) c.self.view_is
    ∙ sym (c.in-Operation.ensures.logged c.args.self.now.log c.args.event)

pub returns-in_default : goal.returns-in_default
returns-in_default c =
    let may = c.in-Operation.ensures.may_note c.args.self.now c.args.event c.requires in
    absurd (is_ready c.self.inside.ready c.args.event.txn (ap (λ (l : LogWithRoom). l.ready) c.self.view_is ∙ may) (sym c.take.ensures.value ∙ c.in_default.is))
