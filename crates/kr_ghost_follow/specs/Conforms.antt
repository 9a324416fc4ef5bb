-- What lines are beside which a state stands.
use Rattle.std.specs.Prelude.{◌≡◌, List, map}
use Rattle.kr_model.specs.Map.{Map}
use Rattle.kr_model.specs.Run.{programs}
use Rattle.kr_model.specs.Serial.{AreSerial}
use Rattle.kr_ghost.specs.declared.moves.Move.{Move}
use Rattle.kr_ghost.specs.Protocol.{GhostProtocol}
use Rattle.kr_ghost.specs.Run.{run}
use Rattle.kr_ghost.specs.State.{opened}
use Rattle.kr_trace_follow.specs.Given.{AreSerialWhereGiven, NoneDiffers}
use Rattle.kr_trace_follow.specs.Lines.{Line}
use Rattle.kr_trace_follow.specs.Programs.{given_programs}
use Rattle.kr_trace_follow.specs.Upwards.{line_upwards}
use Rattle.kr_ghost_follow.specs.Points.{Point}
use Rattle.kr_ghost_follow.specs.Reached.{Leads}

-- The lines are those of a run with purges that leads to the point and is serializable in commit order, from this opening map.
pub record IsSerialRunOf (p : GhostProtocol) (opening : Map) (lines : List Line) (at : Point) : Type 0 where
  -- moves whose steps are those of the lines, with purges
  pub moves : List Move
  pub leads : Leads p opening lines moves at
  -- they are a run that ends in the state of the point
  pub state : (let r = run p (opened opening) moves in r.last) ≡ at.state
  -- what committed in it is serializable in commit order
  pub serial : AreSerial opening (let r = run p (opened opening) moves in programs r.history)
  -- so are the programs that committed, with the answers that were given, each scan downwards as the one upwards
  pub given : AreSerialWhereGiven opening (given_programs (map line_upwards lines))
  -- so a judge that is given these programs, in commit order, finds no difference
  pub judged : NoneDiffers opening (given_programs (map line_upwards lines))
