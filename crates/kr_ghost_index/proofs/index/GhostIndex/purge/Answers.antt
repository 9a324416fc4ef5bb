use Rattle.std.proofs.Common.{subst, sym}
use Rattle.kr_ghost_index.specs.Slots.{IsInOrder}
use Rattle.kr_ghost_index.proofs.SlotLaws.{in_order-remove}
use Rattle.kr_ghost_index.proofs.Views.{purged_map, purged_ghosts, purged_counts, purged_next}
use Rattle.kr_ghost_index.proofs.index.GhostIndex.purge.Goals as goal

pub invariant_of-self : goal.invariant_of-self
invariant_of-self c = subst IsInOrder (sym c.remove.ensures) (in_order-remove c.self.inside.slots.entries c.args.key c.self.invariant)

pub returns-clause-map : goal.returns-clause-map
returns-clause-map c = purged_map c.args.self.now c.self.inside.slots.entries c.self.view_is c.self.invariant c.remove.new.slots.entries c.args.key c.remove.ensures c.requires.is_ghost

pub returns-clause-ghosts : goal.returns-clause-ghosts
returns-clause-ghosts c = purged_ghosts c.args.self.now c.self.inside.slots.entries c.self.view_is c.self.invariant c.remove.new.slots.entries c.args.key c.remove.ensures

pub returns-clause-changes : goal.returns-clause-changes
returns-clause-changes c = purged_counts c.args.self.now c.self.inside.slots.entries c.self.view_is c.self.invariant c.remove.new.slots.entries c.args.key c.remove.ensures c.requires.unchanged

pub returns-clause-next : goal.returns-clause-next
returns-clause-next c = purged_next c.args.self.now c.self.inside.slots.entries c.self.view_is c.self.invariant c.remove.new.slots.entries c.args.key c.remove.ensures
