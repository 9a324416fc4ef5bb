use Rattle.std.proofs.Common.{sym, ◌∙◌, ap}
use Rattle.kr_ghost_index.specs.Slots.{name_of}
use Rattle.kr_ghost_index.proofs.NameLaws.{head_of, walk_past}
use Rattle.kr_ghost_index.proofs.slots.name_past.Goals as goal

pub returns-in-Some : goal.returns-in-Some
returns-in-Some c = sym (ap name_of (walk_past c.args.slots.now.entries c.args.key ∙ ap head_of (sym (c.range-items.ensures.between tt) ∙ c.in-Some.ensures.steps)))

pub returns-in-None : goal.returns-in-None
returns-in-None c = sym (ap name_of (walk_past c.args.slots.now.entries c.args.key ∙ ap head_of (sym (c.range-items.ensures.between tt) ∙ c.in-None.ensures.steps.0)))
