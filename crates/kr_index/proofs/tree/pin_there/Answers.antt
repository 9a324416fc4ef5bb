use Rattle.std.proofs.Common.{◌∙◌, ap, subst, sym, ◌+◌}
use Rattle.std.specs.Ordering.{nat_cmp}
use Rattle.kr_index.specs.declared.slots.Slot.{Slot}
use Rattle.kr_index.specs.Slots.{pairs_of, pins_of, pins_in, value_in, IsInOrder}
use Rattle.kr_index.proofs.SlotLaws.{in_order-put, pairs-put_same, pins-put}
use Rattle.kr_model.proofs.Trees.{lookup_is_find}
use Rattle.kr_index.proofs.TreeLaws.{written, kept_as_it_was, pins_by}
use Rattle.kr_index.proofs.tree.pin_there.Goals as goal

pub returns-in-Some-clause-in_order : goal.returns-in-Some-clause-in_order
returns-in-Some-clause-in_order c =
    let es = c.args.slots.now.entries in
    let s = c.in-Some.slot.now in
    let w : Slot = record { value = s.value; pins = s.pins + 1 } in
    subst IsInOrder (sym (written es _ c.args.key s w c.requires c.in-Some.ensures.value (c.get_mut.follows.holds w).0)) (in_order-put es c.args.key w c.requires)

pub returns-in-Some-clause-map : goal.returns-in-Some-clause-map
returns-in-Some-clause-map c =
    let es = c.args.slots.now.entries in
    let s = c.in-Some.slot.now in
    let w : Slot = record { value = s.value; pins = s.pins + 1 } in
    ap pairs_of (written es _ c.args.key s w c.requires c.in-Some.ensures.value (c.get_mut.follows.holds w).0)
    ∙ pairs-put_same es c.args.key w c.requires (ap value_in (sym (c.in-Some.ensures.value ∙ lookup_is_find nat_cmp es c.args.key)))

pub returns-in-Some-clause-there : goal.returns-in-Some-clause-there
returns-in-Some-clause-there c _ q =
    let es = c.args.slots.now.entries in
    let s = c.in-Some.slot.now in
    let w : Slot = record { value = s.value; pins = s.pins + 1 } in
    ap (λ l. pins_of l q) (written es _ c.args.key s w c.requires c.in-Some.ensures.value (c.get_mut.follows.holds w).0)
    ∙ pins-put es c.args.key w q
    ∙ pins_by (λ n. n + 1) (pins_of es) c.args.key q (s.pins + 1) (ap (λ o. pins_in o + 1) (c.in-Some.ensures.value ∙ lookup_is_find nat_cmp es c.args.key))

pub returns-then-slot-clause-in_order : goal.returns-then-slot-clause-in_order
returns-then-slot-clause-in_order c =
    let es = c.args.slots.now.entries in
    let s = c.in-Some.slot.now in
    subst IsInOrder (sym (kept_as_it_was es _ c.args.key s c.requires c.in-Some.ensures.value (c.get_mut.follows.holds s).0)) c.requires

pub returns-then-slot-clause-map : goal.returns-then-slot-clause-map
returns-then-slot-clause-map c =
    let es = c.args.slots.now.entries in
    let s = c.in-Some.slot.now in
    ap pairs_of (kept_as_it_was es _ c.args.key s c.requires c.in-Some.ensures.value (c.get_mut.follows.holds s).0)

pub returns-then-slot-clause-err : goal.returns-then-slot-clause-err
returns-then-slot-clause-err c =
    let es = c.args.slots.now.entries in
    let s = c.in-Some.slot.now in
    kept_as_it_was es _ c.args.key s c.requires c.in-Some.ensures.value (c.get_mut.follows.holds s).0
