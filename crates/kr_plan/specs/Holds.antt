-- Modes that are kept for requests, and the locks before.
use Rattle.std.specs.Prelude.{◌≢◌, ℕ, Option, Some, None}
use Rattle.kr_model.specs.Locks.{Locks, Request, own, keep_or_drop}
use Rattle.kr_model.specs.declared.Name.{Name}
use Rattle.kr_model.specs.declared.Span.{Span}
use Rattle.kr_model.specs.declared.Span.TheVariants as span

-- The locks before a mode of t was kept on n for this span, where t had the mode `was` there.
abbrev pub put_back_mode : Locks → ℕ → Name → ℕ → Span → Locks
put_back_mode real t n was span.Instant = real
put_back_mode real t n was span.Commit = keep_or_drop real t n was

-- The locks before the request of a side was kept.
abbrev pub put_back : Locks → ℕ → Option Request → ℕ → Locks
put_back real t None was = real
put_back real t (Some (n, q, s)) was = put_back_mode real t n was s

-- The transaction holds a mode on n, where a request to commit was kept there.
abbrev pub HoldsMode : Locks → ℕ → Name → Span → Type 0
HoldsMode locks t n span.Instant = Unit {0}
HoldsMode locks t n span.Commit = own locks t n ≢ 0

-- The transaction holds a mode where the request of a side was kept.
abbrev pub HoldsSide : Locks → ℕ → Option Request → Type 0
HoldsSide locks t None = Unit {0}
HoldsSide locks t (Some (n, q, s)) = HoldsMode locks t n s
