-- When two tables give the same replies in every schedule.
use Rattle.std.specs.Prelude.{◌≡◌, List}
use Rattle.kr_model.specs.declared.Event.{Event}
use Rattle.kr_model.specs.Protocol.{Protocol}
use Rattle.kr_model.specs.Map.{Map}
use Rattle.kr_model.specs.State.{start}
use Rattle.kr_model.specs.Run.{Trace, run}

-- Two runs are the same but for the locks that are held at the end.
pub record IsSameRun (a b : Trace) : Type 0 where
  -- each step has the same reply in both: it is granted, blocked or refused in both, and where it is blocked, by the same transactions
  pub history : a.history ≡ b.history
  -- at the end the index is the same, and so are the active transactions
  pub map : a.state.map ≡ b.state.map
  pub active : a.state.active ≡ b.state.active

-- From every opening map and by every list of events the two tables have the same run.
abbrev pub Alike : Protocol → Protocol → Type 0
Alike p q = (opening : Map) (events : List Event) → IsSameRun (run p (start opening) events) (run q (start opening) events)
