-- Scripts, as contracts see them.
use Rattle.std.specs.Prelude.{◌≤◌, List, length}
use Rattle.kr_model.specs.declared.Event.{Event}
use Rattle.kr_model.specs.Map.{Map, IsMap}

-- An opening index, and the steps in the order in which they are attempted.
pub record Script : Type 0 where
  pub opening : Map
  pub steps : List Event

-- The opening keys rise strictly, and there are at most 100,000 opening pairs and 100,000 steps.
pub record IsScript (s : Script) : Type 0 where
  pub rising : IsMap s.opening
  pub few_pairs : length s.opening ≤ 100000
  pub few_steps : length s.steps ≤ 100000
