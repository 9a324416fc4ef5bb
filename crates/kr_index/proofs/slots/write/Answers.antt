use Rattle.std.proofs.Common.{◌∙◌, ap, subst, sym}
use Rattle.kr_index.specs.Slots.{pairs_of, pins_of, IsInOrder}
use Rattle.kr_index.proofs.SlotLaws.{t_in_order, in_order-put, pairs-put, pairs-put_same, pins-put}
use Rattle.kr_index.proofs.Places.{written_at}
use Rattle.kr_index.proofs.slots.write.Goals as goal

pub returns-clause-in_order : goal.returns-clause-in_order
returns-clause-in_order c =
    let es = c.args.entries.now.items in
    subst IsInOrder (sym (written_at es (t_in_order es c.requires.in_order) c.args.key c.args.place c.requires.place c.args.slot)) (in_order-put es c.args.key c.args.slot c.requires.in_order)

pub returns-clause-map : goal.returns-clause-map
returns-clause-map c =
    let es = c.args.entries.now.items in
    ap pairs_of (written_at es (t_in_order es c.requires.in_order) c.args.key c.args.place c.requires.place c.args.slot) ∙ pairs-put es c.args.key c.args.slot c.requires.in_order

pub returns-clause-same : goal.returns-clause-same
returns-clause-same c same =
    let es = c.args.entries.now.items in
    ap pairs_of (written_at es (t_in_order es c.requires.in_order) c.args.key c.args.place c.requires.place c.args.slot) ∙ pairs-put_same es c.args.key c.args.slot c.requires.in_order same

pub returns-clause-pins : goal.returns-clause-pins
returns-clause-pins c q =
    let es = c.args.entries.now.items in
    ap (λ l. pins_of l q) (written_at es (t_in_order es c.requires.in_order) c.args.key c.args.place c.requires.place c.args.slot) ∙ pins-put es c.args.key c.args.slot q
