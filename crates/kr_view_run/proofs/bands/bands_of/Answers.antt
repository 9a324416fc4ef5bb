use Rattle.std.specs.Prelude.{List, map, string_bytes}
use Rattle.std.proofs.Common.{arith, subst, take}
use Rattle.std.proofs.lemmas.Grind.{common_steps}
use Rattle.kr_view_scenes.specs.Scenes.{NumberedStep, step_of}
use Rattle.kr_view_run.specs.Page.{AreBands}
use Rattle.kr_view_run.proofs.bands.bands_of.Goals as goal

pub loop-scene-preserved : goal.loop-scene-preserved
loop-scene-preserved g c =
    let Are : List NumberedStep → Type 0 = λ steps. AreBands c.args.setting.now.ids.now steps (string_bytes c.push_band.new.bands) in
    subst Are (grind (arith, common_steps, c.loop-scene-test.true)) (c.in_ok-push_band.ensures (map step_of (take c.loop-scene.scene-index c.args.scenes.now)) c.loop-scene.invariant)
