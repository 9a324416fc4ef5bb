-- The locks that are waited for: of each transaction whose latest line is blocked, those that its step requests.
use Rattle.std.specs.Prelude.{ℕ, [], ◌++◌, map}
use Rattle.kr_model.specs.Protocol.{Protocol}
use Rattle.kr_model.specs.Locks.{Locks, release}
use Rattle.kr_trace_lines.specs.declared.observed.Observed.{Observed}
use Rattle.kr_trace_lines.specs.declared.observed.Observed.TheVariants as observed
use Rattle.kr_trace_follow.specs.Lines.{Attempt}
use Rattle.kr_trace_follow.specs.Conflicts.{tests_of, wanted}

-- What t waits for after a step with this reply. A step that waits changes nothing, so the state after it is the one before.
abbrev pub waited_for : Protocol → ℕ → Attempt → Observed → Locks
waited_for p t a (observed.Blocked named) = map wanted (tests_of p t a)
waited_for p t a _ = []

-- The locks that are waited for after a step of t with this reply: t no longer waits for others.
abbrev pub waiting_after : Protocol → Locks → ℕ → Attempt → Observed → Locks
waiting_after p waiting t a o = release waiting t ++ waited_for p t a o
