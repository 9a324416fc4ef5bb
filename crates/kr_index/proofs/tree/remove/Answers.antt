use Rattle.std.proofs.Common.{◌∙◌, ap, subst, sym}
use Rattle.kr_index.specs.Slots.{pairs_of, pins_of, IsInOrder}
use Rattle.kr_index.proofs.SlotLaws.{t_in_order, in_order-remove, pairs-remove, pins-remove}
use Rattle.kr_model.proofs.Trees.{removed_is_without}
use Rattle.kr_index.proofs.tree.remove.Goals as goal

pub returns-clause-in_order : goal.returns-clause-in_order
returns-clause-in_order c =
    let es = c.args.slots.now.entries in
    subst IsInOrder (sym (c.remove.ensures.entries ∙ removed_is_without es c.args.key (t_in_order es c.requires.in_order))) (in_order-remove es c.args.key c.requires.in_order)

pub returns-clause-map : goal.returns-clause-map
returns-clause-map c =
    let es = c.args.slots.now.entries in
    ap pairs_of (c.remove.ensures.entries ∙ removed_is_without es c.args.key (t_in_order es c.requires.in_order)) ∙ pairs-remove es c.args.key c.requires.in_order c.requires.absent

pub returns-clause-pins : goal.returns-clause-pins
returns-clause-pins c q =
    let es = c.args.slots.now.entries in
    ap (λ l. pins_of l q) (c.remove.ensures.entries ∙ removed_is_without es c.args.key (t_in_order es c.requires.in_order)) ∙ pins-remove es c.args.key q
