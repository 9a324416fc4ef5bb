use Rattle.std.proofs.Common.{◌∙◌, subst, sym}
use Rattle.kr_model.specs.Map.{IsMap}
use Rattle.kr_view_scenes.proofs.scenes.shown_left.Goals as goal

pub take-requires : goal.take-requires
take-requires g c = subst IsMap (sym (c.as_slice-pairs.ensures ∙ c.in_ok-after.ensures.index)) c.in_ok-after.ensures.well_formed.is_map
