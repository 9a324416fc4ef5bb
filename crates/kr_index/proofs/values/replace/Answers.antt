use Rattle.std.proofs.Common.{◌∙◌, ap, subst, sym}
use Rattle.std.specs.Ordering.{nat_cmp}
use Rattle.kr_index.specs.declared.slots.Slot.{Slot}
use Rattle.kr_index.specs.Slots.{pairs_of, pins_of, pins_in, value_in, IsInOrder}
use Rattle.kr_index.proofs.SlotLaws.{in_order-put, pairs-put, pins-put, get-pairs}
use Rattle.kr_model.proofs.Trees.{lookup_is_find}
use Rattle.kr_index.proofs.TreeLaws.{written, pins_same}
use Rattle.kr_index.proofs.values.replace.Goals as goal

pub returns-in-Some-clause-was : goal.returns-in-Some-clause-was
returns-in-Some-clause-was c =
    let es = c.args.slots.now.entries in
    ap value_in (c.in-Some.ensures.value ∙ lookup_is_find nat_cmp es c.args.key) ∙ sym (get-pairs es c.args.key c.requires.in_order)

pub returns-in-Some-clause-in_order : goal.returns-in-Some-clause-in_order
returns-in-Some-clause-in_order c =
    let es = c.args.slots.now.entries in
    let s = c.in-Some.slot.now in
    let w : Slot = record { value = c.args.value; pins = s.pins } in
    subst IsInOrder (sym (written es _ c.args.key s w c.requires.in_order c.in-Some.ensures.value (c.get_mut.follows.holds w).0)) (in_order-put es c.args.key w c.requires.in_order)

pub returns-in-Some-clause-map : goal.returns-in-Some-clause-map
returns-in-Some-clause-map c =
    let es = c.args.slots.now.entries in
    let s = c.in-Some.slot.now in
    let w : Slot = record { value = c.args.value; pins = s.pins } in
    ap pairs_of (written es _ c.args.key s w c.requires.in_order c.in-Some.ensures.value (c.get_mut.follows.holds w).0)
    ∙ pairs-put es c.args.key w c.requires.in_order

pub returns-in-Some-clause-pins : goal.returns-in-Some-clause-pins
returns-in-Some-clause-pins c q =
    let es = c.args.slots.now.entries in
    let s = c.in-Some.slot.now in
    let w : Slot = record { value = c.args.value; pins = s.pins } in
    ap (λ l. pins_of l q) (written es _ c.args.key s w c.requires.in_order c.in-Some.ensures.value (c.get_mut.follows.holds w).0)
    ∙ pins-put es c.args.key w q
    ∙ pins_same (pins_of es) c.args.key q s.pins (ap pins_in (c.in-Some.ensures.value ∙ lookup_is_find nat_cmp es c.args.key))
