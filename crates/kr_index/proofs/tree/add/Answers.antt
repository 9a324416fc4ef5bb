use Rattle.std.proofs.Common.{◌∙◌, ap, subst, sym, None}
use Rattle.std.specs.Ordering.{nat_cmp}
use Rattle.kr_index.specs.declared.slots.Slot.{Slot}
use Rattle.kr_index.specs.Slots.{pairs_of, pins_of, value_in, IsInOrder}
use Rattle.kr_index.proofs.SlotLaws.{in_order-put, pairs-put_same, pins-put}
use Rattle.kr_model.proofs.Trees.{inserted_is_put}
use Rattle.kr_index.proofs.tree.add.Goals as goal

pub returns-clause-in_order : goal.returns-clause-in_order
returns-clause-in_order c =
    let es = c.args.slots.now.entries in
    let s : Slot = record { value = None; pins = 1 } in
    subst IsInOrder (sym (c.in_ok-insert.ensures.entries ∙ inserted_is_put nat_cmp es c.args.key s)) (in_order-put es c.args.key s c.requires.in_order)

pub returns-clause-map : goal.returns-clause-map
returns-clause-map c =
    let es = c.args.slots.now.entries in
    let s : Slot = record { value = None; pins = 1 } in
    ap pairs_of (c.in_ok-insert.ensures.entries ∙ inserted_is_put nat_cmp es c.args.key s) ∙ pairs-put_same es c.args.key s c.requires.in_order (ap value_in c.requires.absent)

pub returns-clause-ok : goal.returns-clause-ok
returns-clause-ok c q =
    let es = c.args.slots.now.entries in
    let s : Slot = record { value = None; pins = 1 } in
    ap (λ l. pins_of l q) (c.in_ok-insert.ensures.entries ∙ inserted_is_put nat_cmp es c.args.key s) ∙ pins-put es c.args.key s q
