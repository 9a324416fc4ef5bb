-- What an operation attempts, and which row its attempt goes by.
use Rattle.std.specs.Prelude.{◌≡◌, ℕ, [], Option, Some, None, IfSome, if◌then◌else◌, is_some}
use Rattle.kr_model.specs.Map.{Map, get}
use Rattle.kr_model.specs.State.{Scan}
use Rattle.kr_model.specs.Step.{name_to_look}
use Rattle.kr_model.specs.declared.Op.{Op}
use Rattle.kr_model.specs.declared.Op.TheVariants as op
use Rattle.kr_model.specs.declared.Row.{Row}
use Rattle.kr_model.specs.declared.Row.TheVariants as row
use Rattle.kr_model.specs.declared.Step.{Step}
use Rattle.kr_model.specs.declared.Step.TheVariants as attempt

-- A scan that begins.
abbrev pub begun : ℕ → ℕ → Scan
begun lo hi = record { lo = lo; hi = hi; rows = [] }

-- The attempt of a scan's step, where there is a scan.
abbrev pub look_of : Map → Option Scan → Option Step
look_of m None = None
look_of m (Some c) = Some (attempt.Look (name_to_look m c) c.hi)

-- The attempt of an operation, where it makes one, by the scan in progress.
abbrev pub attempt_of : Map → Option Scan → Op → Option Step
attempt_of m c (op.Fetch k) = Some (attempt.Fetch k)
attempt_of m c (op.Insert k v) = Some (attempt.Insert k)
attempt_of m c (op.Delete k) = Some (attempt.Delete k)
attempt_of m c (op.Update k v) = Some (attempt.Update k)
attempt_of m c (op.Scan lo hi) = look_of m (Some (begun lo hi))
attempt_of m c op.Go = look_of m c
attempt_of m c _ = None

-- The row of an attempt at one key says whether that key is present.
abbrev pub IsRowAt : Map → Step → Row → Type 0
IsRowAt m (attempt.Fetch k) r = r ≡ (if is_some (get m k) then row.FetchHit else row.FetchMiss)
IsRowAt m (attempt.Insert k) r = r ≡ (if is_some (get m k) then row.FetchHit else row.Insert)
IsRowAt m (attempt.Delete k) r = r ≡ (if is_some (get m k) then row.Delete else row.FetchMiss)
IsRowAt m (attempt.Update k) r = r ≡ (if is_some (get m k) then row.Update else row.FetchMiss)
IsRowAt m (attempt.Look n hi) r = Unit {0}

-- The row of an operation is that of its attempt, where it makes one.
abbrev pub IsRowOf : Map → Option Scan → Op → Row → Type 0
IsRowOf m c o r = IfSome (attempt_of m c o) (λ x. IsRowAt m x r)
