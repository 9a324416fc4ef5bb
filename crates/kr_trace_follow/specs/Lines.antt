-- Lines of a trace: what transactions attempted, with the replies that an engine gave.
use Rattle.std.specs.Prelude.{ℕ}
use Rattle.kr_model.specs.declared.Event.{Event}
use Rattle.kr_model.specs.declared.Op.{Op}
use Rattle.kr_model.specs.State.{State}
use Rattle.kr_trace_lines.specs.declared.observed.Observed.{Observed}

-- What a transaction attempted, with the reply that was observed and the number of the line.
pub record Line : Type 0 where
  pub number : ℕ
  pub event : Event
  pub observed : Observed

-- A step that is attempted: the state before it, and the operation.
pub record Attempt : Type 0 where
  pub before : State
  pub op : Op
