use Rattle.std.specs.Prelude.{◌≡◌, ℕ, Bool, true, false, not, Option, Some, None, is_none, is_some, refl}
use Rattle.std.proofs.Common.{◌∙◌, ap, sym}
use Rattle.kr_ghost_index.specs.Slots.{value_in, is_ghost_in}
use Rattle.kr_ghost_index.proofs.Views.{value_is, ghost_is, name_is}
use Rattle.kr_ghost_index.proofs.NameLaws.{slot_here, slot_elsewhere}
use Rattle.kr_ghost_index.proofs.index.GhostIndex.look.Goals as goal

none_is : (o : Option ℕ) (b : Bool) → is_some o ≡ not b → b ≡ is_none o
none_is None true e = refl
none_is None false e = absurd (cc)
none_is (Some v) true e = absurd (cc)
none_is (Some v) false e = refl

pub returns-in-Some-clause-value : goal.returns-in-Some-clause-value
returns-in-Some-clause-value c = ap value_in (slot_here c.args.key c.in-Some.found c.in-Some.slot c.if-found-key.true) ∙ value_is c.args.self.now c.self.inside.slots.entries c.self.view_is c.self.invariant c.args.key (Some (c.in-Some.found, c.in-Some.slot)) c.in-Some.ensures

pub returns-in-Some-clause-is_ghost : goal.returns-in-Some-clause-is_ghost
returns-in-Some-clause-is_ghost c = none_is c.in-Some.slot.value c.is_none.result c.is_none.ensures ∙ ap is_ghost_in (slot_here c.args.key c.in-Some.found c.in-Some.slot c.if-found-key.true) ∙ ghost_is c.args.self.now c.self.inside.slots.entries c.self.view_is c.self.invariant c.args.key (Some (c.in-Some.found, c.in-Some.slot)) c.in-Some.ensures

pub returns-in-Some-clause-name : goal.returns-in-Some-clause-name
returns-in-Some-clause-name c = name_is c.args.self.now c.self.inside.slots.entries c.self.view_is c.self.invariant c.args.key (Some (c.in-Some.found, c.in-Some.slot)) c.in-Some.ensures

pub returns-in-Some-2-clause-value : goal.returns-in-Some-2-clause-value
returns-in-Some-2-clause-value c = ap value_in (slot_elsewhere c.args.key c.in-Some.found c.in-Some.slot c.if-found-key.false) ∙ value_is c.args.self.now c.self.inside.slots.entries c.self.view_is c.self.invariant c.args.key (Some (c.in-Some.found, c.in-Some.slot)) c.in-Some.ensures

pub returns-in-Some-2-clause-is_ghost : goal.returns-in-Some-2-clause-is_ghost
returns-in-Some-2-clause-is_ghost c = ap is_ghost_in (slot_elsewhere c.args.key c.in-Some.found c.in-Some.slot c.if-found-key.false) ∙ ghost_is c.args.self.now c.self.inside.slots.entries c.self.view_is c.self.invariant c.args.key (Some (c.in-Some.found, c.in-Some.slot)) c.in-Some.ensures

pub returns-in-Some-2-clause-name : goal.returns-in-Some-2-clause-name
returns-in-Some-2-clause-name c = name_is c.args.self.now c.self.inside.slots.entries c.self.view_is c.self.invariant c.args.key (Some (c.in-Some.found, c.in-Some.slot)) c.in-Some.ensures

pub returns-in-None-clause-value : goal.returns-in-None-clause-value
returns-in-None-clause-value c = value_is c.args.self.now c.self.inside.slots.entries c.self.view_is c.self.invariant c.args.key None (sym c.in-None.is ∙ c.first_from.ensures)

pub returns-in-None-clause-is_ghost : goal.returns-in-None-clause-is_ghost
returns-in-None-clause-is_ghost c = ghost_is c.args.self.now c.self.inside.slots.entries c.self.view_is c.self.invariant c.args.key None (sym c.in-None.is ∙ c.first_from.ensures)

pub returns-in-None-clause-name : goal.returns-in-None-clause-name
returns-in-None-clause-name c = name_is c.args.self.now c.self.inside.slots.entries c.self.view_is c.self.invariant c.args.key None (sym c.in-None.is ∙ c.first_from.ensures)
