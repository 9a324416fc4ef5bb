use Rattle.std.proofs.Common.{◌∙◌, ap, subst, sym}
use Rattle.kr_ghost_index.specs.Slots.{IsInOrder, seen, changes_of}
use Rattle.kr_ghost_index.proofs.SlotLaws.{in_order-unchanged, map-unchanged, counts_tell, changes-unchanged}
use Rattle.kr_ghost_index.proofs.GhostLaws.{ghosts-unchanged}
use Rattle.kr_ghost_index.proofs.index.GhostIndex.from_pairs.Goals as goal

pub slots_of-requires : goal.slots_of-requires
slots_of-requires c = in_order-unchanged c.args.pairs.now c.requires

pub invariant_of-result : goal.invariant_of-result
invariant_of-result c = subst IsInOrder (sym c.in_ok-slots.ensures) (in_order-unchanged c.args.pairs.now c.requires)

pub returns-clause-map : goal.returns-clause-map
returns-clause-map c = ap (λ l. (seen l).map) c.in_ok-slots.ensures ∙ map-unchanged c.args.pairs.now

pub returns-clause-ghosts : goal.returns-clause-ghosts
returns-clause-ghosts c = ap (λ l. (seen l).ghosts) c.in_ok-slots.ensures ∙ ghosts-unchanged c.args.pairs.now

pub returns-clause-changes : goal.returns-clause-changes
returns-clause-changes c q = counts_tell c.in_ok-slots.slots.entries q ∙ ap (λ l. changes_of l q) c.in_ok-slots.ensures ∙ changes-unchanged c.args.pairs.now q
