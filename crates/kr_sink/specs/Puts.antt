-- What puts do to a sink.
use Rattle.std.specs.Prelude.{◌≡◌, ℕ, ◌+◌, ◌-◌, ◌^◌, ◌<◌, ◌⊎◌, ◌&&◌, ◌==◌, List, ◌++◌, min, nat_lt, if◌then◌else◌, Option, Result, Ok, Err}
use Rattle.std.specs.Io.KnownBytes.{Appends}
use Rattle.kr_sink.specs.declared.sink.Failed.{Failed}

-- A writer, and how many puts on it have failed.
pub record Output (W : Type 0) : Type 0 where
  pub writer : W
  pub failed_puts : ℕ

-- One more, up to 2 ^ 64 - 1.
abbrev pub one_more : ℕ → ℕ
one_more n = min (n + 1) (2 ^ 64 - 1)

-- The count of failed puts after a put of so many bytes: an error is one, and so is none taken of some bytes.
abbrev pub failures_after : Result ℕ Failed → ℕ → ℕ → ℕ
failures_after (Ok n) offered before = if (n == 0) && nat_lt 0 offered then one_more before else before
failures_after (Err e) offered before = one_more before

-- The known bytes grew by a prefix of bs.
abbrev pub AppendsFront : Option (List ℕ) → Option (List ℕ) → List ℕ → Type 0
AppendsFront old new bs = (front rest : List ℕ) × (bs ≡ front ++ rest) × Appends old new front

-- The count of failed puts rose, or has come to its end.
abbrev pub HasCause : ℕ → ℕ → Type 0
HasCause before after = (before < after) ⊎ (after ≡ 2 ^ 64 - 1)
