-- When two tables of either kind give the same replies in every schedule.
use Rattle.std.specs.Prelude.{◌≡◌, List}
use Rattle.kr_model.specs.Map.{Map, IsMap}
use Rattle.kr_ghost.specs.declared.moves.Move.{Move}
use Rattle.kr_ghost.specs.State.{opened}
use Rattle.kr_ghost.specs.Run.{GhostTrace}
use Rattle.kr_kinds.specs.Kinds.{IndexProtocol}
use Rattle.kr_kinds.specs.Runs.{run}

-- Two runs are the same but for the locks that are held at the end.
pub record IsSameIndexRun (a b : GhostTrace) : Type 0 where
  -- each step has the same reply in both, and where it is blocked, by the same transactions
  pub history : a.history ≡ b.history
  -- at the end the index is the same, and so are the ghosts and the active transactions
  pub map : a.last.state.map ≡ b.last.state.map
  pub ghosts : a.last.ghosts ≡ b.last.ghosts
  pub active : a.last.state.active ≡ b.last.state.active

-- From every opening index, whose keys rise, and by any moves the two tables have the same run.
abbrev pub AlikeIndexes : IndexProtocol → IndexProtocol → Type 0
AlikeIndexes p q = (opening : Map) (moves : List Move) → IsMap opening → IsSameIndexRun (run p (opened opening) moves) (run q (opened opening) moves)
