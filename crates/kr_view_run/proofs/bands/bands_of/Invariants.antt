use Rattle.std.proofs.Common.{map, take}
use Rattle.std.specs.Prelude.{string_bytes}
use Rattle.kr_view_scenes.specs.Scenes.{step_of}
use Rattle.kr_view_run.specs.Page.{AreBands}
use Rattle.kr_view_run.proofs.bands.bands_of.Given as goal

-- the bands so far are those of the scenes so far
abbrev pub invariant-loop-scene : goal.invariant-loop-scene
invariant-loop-scene g l = AreBands l.setting.ids.now (map step_of (take l.scene-index l.scenes)) (string_bytes l.bands)
