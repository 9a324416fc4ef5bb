use Rattle.std.proofs.Common.{◌-◌, ◌<◌, subst, sym, refl}
use Rattle.std.specs.Ordering.{nat_cmp}
use Rattle.std.specs.FinMap.{find}
use Rattle.kr_ghost_index.specs.declared.slots.Slot.{Slot}
use Rattle.kr_ghost_index.specs.Slots.{changes_of, value_in, IsInOrder}
use Rattle.kr_ghost_index.proofs.SlotLaws.{in_order-put}
use Rattle.kr_ghost_index.proofs.Views.{changes_are, same_map, same_ghosts, undone_counts}
use Rattle.kr_ghost_index.proofs.index.GhostIndex.settle.Goals as goal

pub settle-requires-clause-changed : goal.settle-requires-clause-changed
settle-requires-clause-changed c = subst (λ n. 0 < n) (changes_are c.args.self.now c.self.inside.slots.entries c.self.view_is c.self.invariant c.args.key) c.requires

pub invariant_of-self : goal.invariant_of-self
invariant_of-self c =
    let es = c.self.inside.slots.entries in
    let k = c.args.key in
    subst IsInOrder (sym c.settle.ensures) (in_order-put es k (record { value = value_in (find nat_cmp k es); changes = changes_of es k - 1 }) c.self.invariant)

pub returns-clause-map : goal.returns-clause-map
returns-clause-map c =
    let es = c.self.inside.slots.entries in
    let k = c.args.key in
    let s : Slot = record { value = value_in (find nat_cmp k es); changes = changes_of es k - 1 } in
    same_map c.args.self.now es c.self.view_is c.self.invariant c.settle.new.slots.entries k s c.settle.ensures refl

pub returns-clause-ghosts : goal.returns-clause-ghosts
returns-clause-ghosts c =
    let es = c.self.inside.slots.entries in
    let k = c.args.key in
    let s : Slot = record { value = value_in (find nat_cmp k es); changes = changes_of es k - 1 } in
    let some = subst (λ n. 0 < n) (changes_are c.args.self.now es c.self.view_is c.self.invariant k) c.requires in
    same_ghosts c.args.self.now es c.self.view_is c.self.invariant c.settle.new.slots.entries k s c.settle.ensures refl some

pub returns-clause-changes : goal.returns-clause-changes
returns-clause-changes c =
    let es = c.self.inside.slots.entries in
    let k = c.args.key in
    let some = subst (λ n. 0 < n) (changes_are c.args.self.now es c.self.view_is c.self.invariant k) c.requires in
    undone_counts c.args.self.now es c.self.view_is c.self.invariant c.settle.new.slots.entries k (value_in (find nat_cmp k es)) some c.settle.ensures
