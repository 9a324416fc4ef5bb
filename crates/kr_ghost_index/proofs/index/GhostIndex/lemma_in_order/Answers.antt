use Rattle.std.proofs.Common.{◌≡◌, ℕ, true, None, subst}
use Rattle.std.specs.List.Sorted.{IsStrictlyIncreasing}
use Rattle.kr_model.specs.Map.{IsMap, get}
use Rattle.kr_ghost.specs.State.{among}
use Rattle.kr_ghost_index.specs.Index.{GhostIndex}
use Rattle.kr_ghost_index.proofs.SlotLaws.{is_map}
use Rattle.kr_ghost_index.proofs.GhostLaws.{ghosts_rise, ghost_is_absent}
use Rattle.kr_ghost_index.proofs.index.GhostIndex.lemma_in_order.Goals as goal

pub returns-clause-map : goal.returns-clause-map
returns-clause-map c = subst (λ (x : GhostIndex). IsMap x.map) c.self.view_is (is_map c.self.inside.slots.entries c.self.invariant)

pub returns-clause-rising : goal.returns-clause-rising
returns-clause-rising c = subst (λ (x : GhostIndex). IsStrictlyIncreasing x.ghosts) c.self.view_is (ghosts_rise c.self.inside.slots.entries c.self.invariant)

pub returns-clause-absent : goal.returns-clause-absent
returns-clause-absent c =
    subst (λ (x : GhostIndex). (k : ℕ) → among x.ghosts k ≡ true → get x.map k ≡ None) c.self.view_is (λ k is. ghost_is_absent c.self.inside.slots.entries k c.self.invariant is)
