use Rattle.std.proofs.Common.{◌∙◌, ap, subst, sym, None}
use Rattle.kr_index.specs.declared.slots.Slot.{Slot}
use Rattle.kr_index.specs.Slots.{pairs_of, pins_of, value_in, IsInOrder}
use Rattle.kr_index.proofs.SlotLaws.{t_in_order, in_order-put, pairs-put_same, pins-put}
use Rattle.kr_index.proofs.Places.{absent_at_gap, added_at_gap}
use Rattle.kr_index.proofs.slots.add.Goals as goal

pub returns-clause-in_order : goal.returns-clause-in_order
returns-clause-in_order c =
    let es = c.args.entries.now.items in
    let s : Slot = record { value = None; pins = 1 } in
    subst IsInOrder (sym (c.in_ok-insert.ensures.items ∙ added_at_gap es c.args.key c.args.place c.requires.gap s)) (in_order-put es c.args.key s c.requires.in_order)

pub returns-clause-map : goal.returns-clause-map
returns-clause-map c =
    let es = c.args.entries.now.items in
    let s : Slot = record { value = None; pins = 1 } in
    ap pairs_of (c.in_ok-insert.ensures.items ∙ added_at_gap es c.args.key c.args.place c.requires.gap s)
    ∙ pairs-put_same es c.args.key s c.requires.in_order (ap value_in (absent_at_gap es c.args.key c.args.place c.requires.gap (t_in_order es c.requires.in_order)))

pub returns-clause-ok : goal.returns-clause-ok
returns-clause-ok c q =
    let es = c.args.entries.now.items in
    let s : Slot = record { value = None; pins = 1 } in
    ap (λ l. pins_of l q) (c.in_ok-insert.ensures.items ∙ added_at_gap es c.args.key c.args.place c.requires.gap s) ∙ pins-put es c.args.key s q
