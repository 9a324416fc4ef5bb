use Rattle.std.proofs.Common.{sym, ◌∙◌, subst}
use Rattle.kr_model.specs.Map.{IsMap}
use Rattle.kr_model.proofs.MapLaws.{IsMap-without, t_of}
use Rattle.kr_model.proofs.Trees.{removed_is_without}
use Rattle.kr_judge.proofs.whole.take.Goals as goal

pub returns-clause-is_map : goal.returns-clause-is_map
returns-clause-is_map c =
    subst IsMap (sym (c.remove.ensures.entries ∙ removed_is_without c.args.map.now.entries c.args.key (t_of _ c.requires))) (IsMap-without c.args.map.now.entries c.args.key c.requires)

pub returns-clause-map : goal.returns-clause-map
returns-clause-map c = c.remove.ensures.entries ∙ removed_is_without c.args.map.now.entries c.args.key (t_of _ c.requires)
