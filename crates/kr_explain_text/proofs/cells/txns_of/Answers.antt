use Rattle.std.proofs.Common.{[], sym, ap, ◌∙◌}
use Rattle.std.proofs.lemmas.List.{take_all}
use Rattle.std.proofs.lemmas.List.Sums.{fold_more}
use Rattle.kr_model.specs.declared.Event.{Event}
use Rattle.kr_model.specs.declared.Op.TheVariants as op
use Rattle.kr_model.specs.Locks.{add_once}
use Rattle.kr_explain_text.specs.Steps.{txns_of}
use Rattle.kr_explain_text.proofs.cells.txns_of.Goals as goal

pub loop-event-preserved : goal.loop-event-preserved
loop-event-preserved c =
    let nothing : Event = record { txn = 0; op = op.Fetch 0 } in
    c.in_ok-put_once.ensures ∙ (ap (add_once _) c.loop-event.invariant ∙ sym (fold_more (λ txns (e : Event). add_once e.txn txns) [] c.args.events.now c.loop-event.event-index nothing c.loop-event-test.true))

pub returns : goal.returns
returns c = c.loop-event.invariant ∙ ap txns_of (take_all c.loop-event.event-index c.args.events.now c.loop-event-test.false)
