use Rattle.std.proofs.Common.{◌∙◌, ap, ◌-◌}
use Rattle.std.specs.Ordering.{nat_cmp}
use Rattle.std.specs.FinMap.{put}
use Rattle.kr_model.proofs.Trees.{lookup_is_find}
use Rattle.kr_ghost_index.specs.declared.slots.Slot.{Slot}
use Rattle.kr_ghost_index.specs.Slots.{changes_in}
use Rattle.kr_ghost_index.proofs.SlotLaws.{written}
use Rattle.kr_ghost_index.proofs.slots.undo.Goals as goal

pub returns-in-Some : goal.returns-in-Some
returns-in-Some c =
    let es = c.args.slots.now.entries in
    let s = c.in-Some.slot.now in
    let w : Slot = record { value = c.args.value; changes = s.changes - 1 } in
    let found = ap changes_in (c.in-Some.ensures.value ∙ lookup_is_find nat_cmp es c.args.key) in
    written es _ c.args.key s w c.requires.in_order c.in-Some.ensures.value (c.get_mut.follows.holds w).0
    ∙ ap (λ n. put nat_cmp c.args.key (record { value = c.args.value; changes = n - 1 }) es) found
