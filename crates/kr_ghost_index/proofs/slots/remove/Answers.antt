use Rattle.std.proofs.Common.{◌∙◌}
use Rattle.kr_model.proofs.MapLaws.{t_of}
use Rattle.kr_model.proofs.Trees.{removed_is_without}
use Rattle.kr_ghost_index.proofs.slots.remove.Goals as goal

pub returns : goal.returns
returns c = c.remove.ensures.entries ∙ removed_is_without c.args.slots.now.entries c.args.key (t_of _ c.requires)
