-- Answers that were given whole.
use Rattle.std.specs.Prelude.{◌≡◌, List, [], ◌∷◌, Some}
use Rattle.kr_model.specs.declared.Reply.{Reply}
use Rattle.kr_model.specs.declared.Reply.TheVariants as reply
use Rattle.kr_model.specs.Run.{Answered}
use Rattle.kr_trace_lines.specs.declared.observed.Observed.{Observed}
use Rattle.kr_trace_lines.specs.declared.observed.Observed.TheVariants as observed
use Rattle.kr_trace_follow.specs.Given.{Given}

-- The answer was given with nothing left out. No engine gives a refusal.
abbrev pub IsGivenWhole : Reply → Observed → Type 0
IsGivenWhole (reply.Found v) o = o ≡ observed.Found v
IsGivenWhole reply.None o = o ≡ observed.None
IsGivenWhole (reply.Going k) o = o ≡ observed.Going k
IsGivenWhole (reply.Rows rows) o = o ≡ observed.Rows rows
IsGivenWhole reply.Done o = o ≡ observed.Done
IsGivenWhole reply.Duplicate o = o ≡ observed.Duplicate
IsGivenWhole (reply.Deleted v) o = o ≡ observed.Deleted (Some v)
IsGivenWhole reply.Absent o = o ≡ observed.Absent
IsGivenWhole (reply.Updated v) o = o ≡ observed.Updated (Some v)
IsGivenWhole (reply.Undone n) o = o ≡ observed.Undone (Some n)
IsGivenWhole reply.Committed o = o ≡ observed.Committed
IsGivenWhole reply.Aborted o = o ≡ observed.Aborted
IsGivenWhole (reply.Blocked us) o = ⊥
IsGivenWhole (reply.Refused r) o = ⊥

-- The operations are the same, and each answer was given whole.
abbrev pub AreGivenWhole : List Answered → List Given → Type 0
AreGivenWhole [] [] = Unit {0}
AreGivenWhole ((o, a) ∷ os) ((p, b) ∷ ps) = (p ≡ o) × (IsGivenWhole a b × AreGivenWhole os ps)
AreGivenWhole _ _ = ⊥
