-- A machine without its log, as contracts see it.
use Rattle.std.specs.Prelude.{Option}
use Rattle.kr_model.specs.declared.Event.{Event}
use Rattle.kr_model.specs.State.{State}

-- Its protocol, its state between two steps, and the event of a step that is ready and not yet done.
pub record Steps (P : Type 0) : Type 0 where
  pub protocol : P
  pub state : State
  pub pending : Option Event
