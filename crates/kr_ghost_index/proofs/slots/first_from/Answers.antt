use Rattle.std.proofs.Common.{sym, ◌∙◌, ap}
use Rattle.kr_ghost_index.proofs.NameLaws.{head_of, walk_from}
use Rattle.kr_ghost_index.proofs.slots.first_from.Goals as goal

pub returns-in-Some : goal.returns-in-Some
returns-in-Some c = sym (walk_from c.args.slots.now.entries c.args.from ∙ ap head_of (sym (c.range-items.ensures.between tt) ∙ c.in-Some.ensures.steps))

pub returns-in-None : goal.returns-in-None
returns-in-None c = sym (walk_from c.args.slots.now.entries c.args.from ∙ ap head_of (sym (c.range-items.ensures.between tt) ∙ c.in-None.ensures.steps.0))
