use Rattle.std.proofs.Common.{◌≡◌, ◌∙◌, ℕ, Some, ap, subst, sym}
use Rattle.std.specs.Ordering.{nat_cmp}
use Rattle.std.specs.BTreeMap as tree
use Rattle.std.specs.BTreeMap.{BTreeMap, insert_entry}
use Rattle.kr_model.proofs.Trees.{inserted_is_put, lookup_is_find}
use Rattle.kr_index.specs.declared.slots.Slot.{Slot}
use Rattle.kr_index.specs.Slots.{pairs_of, pins_of, pins_in, value_in, IsInOrder}
use Rattle.kr_index.proofs.SlotLaws.{in_order-put, pairs-put, pins-put, get-pairs}
use Rattle.kr_index.proofs.TreeLaws.{pins_same}
use Rattle.kr_index.proofs.values.replace_last.Goals as goal

some_same : {a b : ℕ} → Some a ≡ Some b → a ≡ b
some_same e = cc

pub returns-in-Some-clause-was : goal.returns-in-Some-clause-was
returns-in-Some-clause-was c =
    let es = c.args.slots.now.entries in
    let key_is = some_same (sym c.requires.last ∙ c.in-Some.ensures.key) in
    let found = sym c.get-slot.ensures ∙ c.in-Some.ensures.value.1 ∙ ap (λ (k : ℕ). tree.get nat_cmp c.args.slots.now k) (sym key_is) ∙ lookup_is_find nat_cmp es c.args.key in
    ap value_in found ∙ sym (get-pairs es c.args.key c.requires.in_order)

pub returns-in-Some-clause-in_order : goal.returns-in-Some-clause-in_order
returns-in-Some-clause-in_order c =
    let es = c.args.slots.now.entries in
    let s = c.get-slot.result.now in
    let w : Slot = record { value = c.args.value; pins = s.pins } in
    let key_is = some_same (sym c.requires.last ∙ c.in-Some.ensures.key) in
    let last = c.slots-1.given.1 (sym (c.insert.ensures.written.0 ∙ c.in-Some.ensures.same_map)) in
    let put_is = ap (λ (m : BTreeMap ℕ Slot). m.entries) (last ∙ c.insert.ensures.written.1) ∙ c.in-Some.ensures.update.1 w ∙ ap (λ (k : ℕ). insert_entry nat_cmp es k w) (sym key_is) ∙ inserted_is_put nat_cmp es c.args.key w in
    subst IsInOrder (sym put_is) (in_order-put es c.args.key w c.requires.in_order)

pub returns-in-Some-clause-map : goal.returns-in-Some-clause-map
returns-in-Some-clause-map c =
    let es = c.args.slots.now.entries in
    let s = c.get-slot.result.now in
    let w : Slot = record { value = c.args.value; pins = s.pins } in
    let key_is = some_same (sym c.requires.last ∙ c.in-Some.ensures.key) in
    let last = c.slots-1.given.1 (sym (c.insert.ensures.written.0 ∙ c.in-Some.ensures.same_map)) in
    let put_is = ap (λ (m : BTreeMap ℕ Slot). m.entries) (last ∙ c.insert.ensures.written.1) ∙ c.in-Some.ensures.update.1 w ∙ ap (λ (k : ℕ). insert_entry nat_cmp es k w) (sym key_is) ∙ inserted_is_put nat_cmp es c.args.key w in
    ap pairs_of put_is ∙ pairs-put es c.args.key w c.requires.in_order

pub returns-in-Some-clause-pins : goal.returns-in-Some-clause-pins
returns-in-Some-clause-pins c q =
    let es = c.args.slots.now.entries in
    let s = c.get-slot.result.now in
    let w : Slot = record { value = c.args.value; pins = s.pins } in
    let key_is = some_same (sym c.requires.last ∙ c.in-Some.ensures.key) in
    let last = c.slots-1.given.1 (sym (c.insert.ensures.written.0 ∙ c.in-Some.ensures.same_map)) in
    let put_is = ap (λ (m : BTreeMap ℕ Slot). m.entries) (last ∙ c.insert.ensures.written.1) ∙ c.in-Some.ensures.update.1 w ∙ ap (λ (k : ℕ). insert_entry nat_cmp es k w) (sym key_is) ∙ inserted_is_put nat_cmp es c.args.key w in
    let found = sym c.get-slot.ensures ∙ c.in-Some.ensures.value.1 ∙ ap (λ (k : ℕ). tree.get nat_cmp c.args.slots.now k) (sym key_is) ∙ lookup_is_find nat_cmp es c.args.key in
    ap (λ l. pins_of l q) put_is ∙ pins-put es c.args.key w q ∙ pins_same (pins_of es) c.args.key q s.pins (ap pins_in found)
