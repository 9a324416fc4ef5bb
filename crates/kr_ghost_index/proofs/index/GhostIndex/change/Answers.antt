use Rattle.std.proofs.lemmas.Result.{on_ok_weaker}
use Rattle.std.proofs.Common.{◌+◌}
use Rattle.kr_ghost_index.specs.declared.slots.Slot.{Slot}
use Rattle.kr_ghost_index.specs.Slots.{changes_of}
use Rattle.kr_ghost_index.proofs.Views.{in_order_after, put_map, put_ghosts, changed_counts}
use Rattle.kr_ghost_index.proofs.index.GhostIndex.change.Goals as goal

pub invariant_of-self : goal.invariant_of-self
invariant_of-self c = in_order_after c.change.result c.self.inside.slots.entries c.change.new.slots.entries c.args.key c.args.value c.self.invariant c.change.ensures.ok c.change.ensures.err

pub returns-clause-map : goal.returns-clause-map
returns-clause-map c =
    let es = c.self.inside.slots.entries in
    let s : Slot = record { value = c.args.value; changes = changes_of es c.args.key + 1 } in
    on_ok_weaker c.change.result (put_map c.args.self.now es c.self.view_is c.self.invariant c.change.new.slots.entries c.args.key s) c.change.ensures.ok

pub returns-clause-ghosts : goal.returns-clause-ghosts
returns-clause-ghosts c =
    let es = c.self.inside.slots.entries in
    let s : Slot = record { value = c.args.value; changes = changes_of es c.args.key + 1 } in
    on_ok_weaker c.change.result (put_ghosts c.args.self.now es c.self.view_is c.self.invariant c.change.new.slots.entries c.args.key s) c.change.ensures.ok

pub returns-clause-changes : goal.returns-clause-changes
returns-clause-changes c =
    let es = c.self.inside.slots.entries in
    on_ok_weaker c.change.result (changed_counts c.args.self.now es c.self.view_is c.self.invariant c.change.new.slots.entries c.args.key c.args.value) c.change.ensures.ok
