use Rattle.std.proofs.Common.{Some, None, ◌∙◌, ap, sym}
use Rattle.kr_model.specs.Map.{get}
use Rattle.kr_ghost_index.proofs.Views.{name_is, first_value}
use Rattle.kr_ghost_index.proofs.index.GhostIndex.name_from.Goals as goal

pub returns-in-Some-clause-name : goal.returns-in-Some-clause-name
returns-in-Some-clause-name c = name_is c.args.self.now c.self.inside.slots.entries c.self.view_is c.self.invariant c.args.from (Some (c.in-Some.key, c.in-Some.slot)) c.in-Some.ensures

pub returns-in-Some-clause-value : goal.returns-in-Some-clause-value
returns-in-Some-clause-value c k same =
    first_value c.args.self.now c.self.inside.slots.entries c.self.view_is c.self.invariant c.args.from c.in-Some.key c.in-Some.slot c.in-Some.ensures
    ∙ ap (get c.args.self.now.map) cc

pub returns-in-None-clause-name : goal.returns-in-None-clause-name
returns-in-None-clause-name c = name_is c.args.self.now c.self.inside.slots.entries c.self.view_is c.self.invariant c.args.from None (sym c.in-None.is ∙ c.first_from.ensures)
