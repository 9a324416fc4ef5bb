-- Whether a reply is the one that was observed.
use Rattle.std.specs.Prelude.{ℕ, Bool, true, false, ◌==◌, Option, Some, None}
use Rattle.kr_model.specs.declared.Reply.{Reply}
use Rattle.kr_model.specs.declared.Reply.TheVariants as reply
use Rattle.kr_model.specs.Difference.{same_pairs}
use Rattle.kr_trace_lines.specs.declared.observed.Observed.{Observed}
use Rattle.kr_trace_lines.specs.declared.observed.Observed.TheVariants as observed

-- Whether the number is the one that was given, where one was.
abbrev pub is_given : Option ℕ → ℕ → Bool
is_given (Some m) n = n == m
is_given None n = true

-- Whether the reply is the one that was observed, as far as it was given. Whom the engine names as blockers isn't compared.
abbrev pub fits : Reply → Observed → Bool
fits (reply.Found v) (observed.Found w) = v == w
fits reply.None observed.None = true
fits (reply.Going k) (observed.Going l) = k == l
fits (reply.Rows a) (observed.Rows b) = same_pairs a b
fits reply.Done observed.Done = true
fits reply.Duplicate observed.Duplicate = true
fits (reply.Deleted v) (observed.Deleted w) = is_given w v
fits reply.Absent observed.Absent = true
fits (reply.Updated v) (observed.Updated w) = is_given w v
fits (reply.Undone n) (observed.Undone l) = is_given l n
fits reply.Committed observed.Committed = true
fits reply.Aborted observed.Aborted = true
fits (reply.Blocked us) (observed.Blocked named) = true
fits _ _ = false
