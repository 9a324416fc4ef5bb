use Rattle.std.proofs.Common.{sym, ◌∙◌, subst}
use Rattle.std.specs.Ordering.{nat_cmp}
use Rattle.kr_model.specs.Map.{IsMap}
use Rattle.kr_model.proofs.MapLaws.{IsMap-set}
use Rattle.kr_model.proofs.Trees.{inserted_is_put}
use Rattle.kr_judge.proofs.whole.put.Goals as goal

pub returns-clause-is_map : goal.returns-clause-is_map
returns-clause-is_map c =
    subst IsMap (sym (c.in_ok-insert.ensures.entries ∙ inserted_is_put nat_cmp c.args.map.now.entries c.args.key c.args.value)) (IsMap-set c.args.map.now.entries c.args.key c.args.value c.requires)

pub returns-clause-map : goal.returns-clause-map
returns-clause-map c = c.in_ok-insert.ensures.entries ∙ inserted_is_put nat_cmp c.args.map.now.entries c.args.key c.args.value
