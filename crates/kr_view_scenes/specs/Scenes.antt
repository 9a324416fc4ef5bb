-- The steps of a run that are drawn.
use Rattle.std.specs.Prelude.{ℕ, List, ◌-◌, drop, length, map}
use Rattle.std.specs.List.{enumerate_from}
use Rattle.kr_model.specs.declared.Event.{Event}
use Rattle.kr_model.specs.Protocol.{Protocol}
use Rattle.kr_model.specs.Map.{Map}
use Rattle.kr_model.specs.State.{start}
use Rattle.kr_model.specs.Run.{Entry, run}
use Rattle.kr_view_scenes.specs.declared.act.Act.{Act}
use Rattle.kr_view_scenes.specs.declared.act.Act.TheVariants as act
use Rattle.kr_view_scenes.specs.declared.run.TheConstants.{STEPS_DRAWN}
use Rattle.kr_view_scenes.specs.declared.scene.Scene.{Scene}

-- A step of a run: its number, from 1, and what was done with what came of it.
abbrev pub NumberedStep : Type 0
NumberedStep = ℕ × Act

-- An event with its reply, as what was done.
abbrev pub act_of : Entry → Act
act_of e = act.Attempt e.0 e.1

-- The step that a scene shows.
abbrev pub step_of : Scene → NumberedStep
step_of s = (s.number, s.act)

-- The steps that are drawn of the run of these events under p from the opening map: the last `STEPS_DRAWN`, in order.
abbrev pub drawn_steps : Protocol → Map → List Event → List NumberedStep
drawn_steps p opening events = drop (length events - STEPS_DRAWN) (enumerate_from 1 (map act_of (run p (start opening) events).history))
