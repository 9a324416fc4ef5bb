-- What lines are of which none deviates.
use Rattle.std.specs.Prelude.{◌≡◌, false, IsTrue, List, [], ◌∷◌}
use Rattle.kr_model.specs.Protocol.{Protocol}
use Rattle.kr_model.specs.Map.{Map}
use Rattle.kr_model.specs.Run.{run, programs}
use Rattle.kr_model.specs.Serial.{AreSerial}
use Rattle.kr_model.specs.State.{start}
use Rattle.kr_trace_lines.specs.Fits.{fits}
use Rattle.kr_trace_follow.specs.Deviates.{is_queued_at}
use Rattle.kr_trace_follow.specs.Following.{Point, at_start, point_after, point_left, steps_in}
use Rattle.kr_trace_follow.specs.Lines.{Line}
use Rattle.kr_trace_follow.specs.Programs.{given_programs}
use Rattle.kr_trace_follow.specs.Steps.{outcome_of}
use Rattle.kr_trace_follow.specs.Given.{AreSerialWhereGiven, NoneDiffers}

-- Each reply that was observed is the table's, as far as it was given, but for lines that are queued.
abbrev pub AllFit : Protocol → Point → List Line → Type 0
AllFit p at [] = Unit {0}
AllFit p at (l ∷ ls) =
    (is_queued_at p at.waiting at.state l ≡ false → IsTrue (let done = outcome_of p at.waiting at.state l in fits done.0 l.observed))
    × AllFit p (point_after p at l) ls

-- The lines are those of a run under p that is serializable in commit order, from this opening map.
pub record IsSerialTrace (p : Protocol) (opening : Map) (lines : List Line) : Type 0 where
  -- each reply that was observed is the table's, as far as it was given, but for lines that are queued
  pub fit : AllFit p (at_start opening) lines
  -- the steps of the lines are a run that ends in the state after them
  pub state : (let r = run p (start opening) (steps_in p (at_start opening) lines) in r.state) ≡ (let at = point_left p (at_start opening) lines in at.state)
  -- what committed in it is serializable in commit order
  pub serial : AreSerial opening (let r = run p (start opening) (steps_in p (at_start opening) lines) in programs r.history)
  -- so are the programs that committed, with the answers that were given
  pub given : AreSerialWhereGiven opening (given_programs lines)
  -- so a judge that is given these programs, in commit order, finds no difference
  pub judged : NoneDiffers opening (given_programs lines)
