-- What it is for a schedule with purges to go wrong under a table: the table grants each of its steps, each purge takes its ghost away, and yet the committed transactions aren't serializable in commit order.
use Rattle.std.specs.Prelude.{Bool, List, IsTrue, All}
use Rattle.kr_model.specs.Map.{Map, IsMap}
use Rattle.kr_model.specs.Run.{programs, is_granted}
use Rattle.kr_model.specs.Serial.{AreSerial}
use Rattle.kr_ghost.specs.declared.moves.Move.{Move}
use Rattle.kr_ghost.specs.Protocol.{GhostProtocol}
use Rattle.kr_ghost.specs.State.{opened}
use Rattle.kr_ghost.specs.Run.{run}
use Rattle.kr_ghost_run.specs.Ran.{answers}
use Rattle.kr_ghost_run.specs.declared.ran.Answer.{Answer}
use Rattle.kr_ghost_run.specs.declared.ran.Answer.TheVariants as answer

-- A step is neither blocked nor refused, and a purge takes its ghost away.
abbrev pub is_done : Answer → Bool
is_done (answer.Step r) = is_granted r
is_done (answer.Purge is_purged) = is_purged

-- The moves go wrong from the opening map under p.
pub record GoesWrongBy (p : GhostProtocol) (opening : Map) (moves : List Move) : Type 0 where
  -- the keys of the opening map rise strictly
  pub is_map : IsMap opening
  -- no step is blocked or refused, and no purge leaves its ghost
  pub done : All (λ a. IsTrue (is_done a)) (answers p (opened opening) moves)
  -- the programs that committed don't have the answers that they have when run whole, one after another in commit order
  pub not_serial : AreSerial opening (let r = run p (opened opening) moves in programs r.history) → ⊥
