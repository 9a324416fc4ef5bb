use Rattle.std.proofs.Common.{◌∙◌, ap, ◌+◌, ℕ, Option}
use Rattle.std.specs.BTreeMap.{BTreeMap, insert_entry}
use Rattle.std.specs.Ordering.{nat_cmp}
use Rattle.std.specs.FinMap.{put}
use Rattle.kr_model.proofs.Trees.{inserted_is_put, lookup_is_find}
use Rattle.kr_ghost_index.specs.declared.slots.Slot.{Slot}
use Rattle.kr_ghost_index.specs.Slots.{changes_in}
use Rattle.kr_ghost_index.proofs.SlotLaws.{written, kept_as_it_was}
use Rattle.kr_ghost_index.proofs.slots.change.Goals as goal

pub returns-then-slot-clause-err : goal.returns-then-slot-clause-err
returns-then-slot-clause-err c =
    let es = c.args.slots.now.entries in
    let s = c.in-Some.slot.now in
    kept_as_it_was es _ c.args.key s c.requires c.in-Some.ensures.value (c.get_mut.follows.holds s).0

pub returns-in-Some-clause-ok : goal.returns-in-Some-clause-ok
returns-in-Some-clause-ok c =
    let es = c.args.slots.now.entries in
    let s = c.in-Some.slot.now in
    let w : Slot = record { value = c.args.value; changes = s.changes + 1 } in
    let found = ap changes_in (c.in-Some.ensures.value ∙ lookup_is_find nat_cmp es c.args.key) in
    written es _ c.args.key s w c.requires c.in-Some.ensures.value (c.get_mut.follows.holds w).0
    ∙ ap (λ n. put nat_cmp c.args.key (record { value = c.args.value; changes = n + 1 }) es) found

pub returns-clause-ok : goal.returns-clause-ok
returns-clause-ok c =
    let es = c.args.slots.now.entries in
    let w : Slot = record { value = c.args.value; changes = 1 } in
    let none = ap (λ (o : Option Slot). changes_in o + 1) (c.in_default.ensures.value ∙ lookup_is_find nat_cmp es c.args.key) in
    c.in_ok-insert.ensures.entries
    ∙ ap (λ (m : BTreeMap ℕ Slot). insert_entry nat_cmp m.entries c.args.key w) c.get_mut.follows.holds-at-none
    ∙ inserted_is_put nat_cmp es c.args.key w
    ∙ ap (λ n. put nat_cmp c.args.key (record { value = c.args.value; changes = n }) es) none
