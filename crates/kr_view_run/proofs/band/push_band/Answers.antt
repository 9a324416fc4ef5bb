use Rattle.std.specs.Prelude.{string_bytes}
use Rattle.std.proofs.Common.{◌∙◌}
use Rattle.kr_view_scenes.specs.Scenes.{step_of}
use Rattle.kr_view_run.proofs.Shown.{pushed_band}
use Rattle.kr_view_run.proofs.band.push_band.Goals as goal

pub returns : goal.returns
returns g c steps are =
    pushed_band c.args.setting.now.ids.now steps (step_of c.args.scene.now) (string_bytes c.args.bands.now) c.as_str.result.now (string_bytes c.push_str.new.self) c.as_str-2.result.now (string_bytes c.push_str-2.new.self) (string_bytes c.push_str-3.new.self)
    are (c.as_str.ensures.value ∙ c.in_ok-head.ensures) c.as_str-2.ensures.parts c.in_ok-push_str.ensures.bytes c.in_ok-push_str-2.ensures.bytes c.in_ok-push_str-3.ensures.bytes
