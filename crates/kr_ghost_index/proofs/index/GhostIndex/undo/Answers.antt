use Rattle.std.proofs.Common.{◌-◌, ◌<◌, subst, sym}
use Rattle.kr_ghost_index.specs.declared.slots.Slot.{Slot}
use Rattle.kr_ghost_index.specs.Slots.{changes_of, IsInOrder}
use Rattle.kr_ghost_index.proofs.SlotLaws.{in_order-put}
use Rattle.kr_ghost_index.proofs.Views.{changes_are, put_map, put_ghosts, undone_counts}
use Rattle.kr_ghost_index.proofs.index.GhostIndex.undo.Goals as goal

pub undo-requires-clause-changed : goal.undo-requires-clause-changed
undo-requires-clause-changed c = subst (λ n. 0 < n) (changes_are c.args.self.now c.self.inside.slots.entries c.self.view_is c.self.invariant c.args.key) c.requires

pub invariant_of-self : goal.invariant_of-self
invariant_of-self c =
    let es = c.self.inside.slots.entries in
    subst IsInOrder (sym c.undo.ensures) (in_order-put es c.args.key (record { value = c.args.value; changes = changes_of es c.args.key - 1 }) c.self.invariant)

pub returns-clause-map : goal.returns-clause-map
returns-clause-map c =
    let es = c.self.inside.slots.entries in
    let s : Slot = record { value = c.args.value; changes = changes_of es c.args.key - 1 } in
    put_map c.args.self.now es c.self.view_is c.self.invariant c.undo.new.slots.entries c.args.key s c.undo.ensures

pub returns-clause-ghosts : goal.returns-clause-ghosts
returns-clause-ghosts c =
    let es = c.self.inside.slots.entries in
    let s : Slot = record { value = c.args.value; changes = changes_of es c.args.key - 1 } in
    put_ghosts c.args.self.now es c.self.view_is c.self.invariant c.undo.new.slots.entries c.args.key s c.undo.ensures

pub returns-clause-changes : goal.returns-clause-changes
returns-clause-changes c =
    let es = c.self.inside.slots.entries in
    let some = subst (λ n. 0 < n) (changes_are c.args.self.now es c.self.view_is c.self.invariant c.args.key) c.requires in
    undone_counts c.args.self.now es c.self.view_is c.self.invariant c.undo.new.slots.entries c.args.key c.args.value some c.undo.ensures
