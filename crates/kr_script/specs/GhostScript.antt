-- Scripts with purges, as contracts see them.
use Rattle.std.specs.Prelude.{◌≤◌, List, length}
use Rattle.kr_model.specs.Map.{Map, IsMap}
use Rattle.kr_ghost.specs.declared.moves.Move.{Move}

-- An opening index, and the moves in the order in which they are done.
pub record GhostScript : Type 0 where
  pub opening : Map
  pub moves : List Move

-- The opening keys rise strictly, and there are at most 100,000 opening pairs and 100,000 moves.
pub record IsGhostScript (s : GhostScript) : Type 0 where
  pub rising : IsMap s.opening
  pub few_pairs : length s.opening ≤ 100000
  pub few_moves : length s.moves ≤ 100000
