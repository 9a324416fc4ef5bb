-- What is explained of a table with ghosts: whether it is accepted, or else safe; and where cases fail, what is to blame and what mends it, and a schedule that goes wrong.
use Rattle.std.specs.Prelude.{◌≡◌, ◌↔◌, ℕ, ◌==◌, length, All, Bool, true, false, Option, None, IfSome, if◌then◌else◌}
use Rattle.kr_ghost.specs.Protocol.{GhostProtocol}
use Rattle.kr_ghost.specs.Covers.{cases, failed_cases, IsCoveredGhost}
use Rattle.kr_ghost.specs.Safe.{IsSafeGhost}
use Rattle.kr_ghost_explain.specs.declared.schedule.GhostSchedule.{GhostSchedule}
use Rattle.kr_ghost_explain.specs.declared.explanation.GhostFailures.{GhostFailures}
use Rattle.kr_ghost_explain.specs.declared.explanation.GhostExplanation.{GhostExplanation}
use Rattle.kr_ghost_explain.specs.declared.explanation.GhostExplanation.TheVariants as told
use Rattle.kr_ghost_explain.specs.Blames.{AreGhostCauses}
use Rattle.kr_ghost_explain.specs.Mends.{IsMended, causes_of}
use Rattle.kr_ghost_explain.specs.Wrong.{GoesWrongBy}

-- The script of a schedule goes wrong under p.
abbrev pub IsWrong : GhostProtocol → GhostSchedule → Type 0
IsWrong p s = GoesWrongBy p s.script.opening s.script.moves

-- Why cases of p fail.
pub record AreGhostFailures (p : GhostProtocol) (f : GhostFailures) : Type 0 where
  -- it has so many cases, and so many of them fail
  pub has_cases : f.cases ≡ length (cases p)
  pub has_failed : f.failed ≡ length (failed_cases p)
  -- each failed case is in exactly one of the causes
  pub causes : AreGhostCauses p (failed_cases p) (causes_of f.causes.items)
  -- each change that is named for a cause mends it
  pub mended : All (IsMended p (failed_cases p)) f.causes.items
  -- the schedule, if there is one, goes wrong
  pub wrong : IfSome f.schedule (IsWrong p)

-- Whether a table is told to be accepted.
abbrev pub is_accepted : GhostExplanation → Bool
is_accepted (told.Accepted cases) = true
is_accepted (told.Safe f) = false
is_accepted (told.Rejected f) = false

-- Whether a table is told to be safe, accepted or not.
abbrev pub is_safe : GhostExplanation → Bool
is_safe (told.Accepted cases) = true
is_safe (told.Safe f) = true
is_safe (told.Rejected f) = false

-- What is told of p. A table that is safe has no schedule that goes wrong.
abbrev pub Tells : GhostProtocol → GhostExplanation → Type 0
Tells p (told.Accepted n) = n ≡ length (cases p)
Tells p (told.Safe f) = AreGhostFailures p f × (f.schedule ≡ None)
Tells p (told.Rejected f) = AreGhostFailures p f

-- An explanation of p: it tells that p is accepted exactly where p is covered, and that p is safe, accepted or not, exactly where it is.
pub record IsGhostExplained (p : GhostProtocol) (e : GhostExplanation) : Type 0 where
  pub accepted : is_accepted e ≡ true ↔ IsCoveredGhost p
  pub safe : is_safe e ≡ true ↔ IsSafeGhost p
  pub told : Tells p e

-- The schedule of a number, if there is one: a table that isn't safe has one at most, of number 1.
abbrev pub schedule_at : ℕ → GhostExplanation → Option GhostSchedule
schedule_at n (told.Accepted cases) = None
schedule_at n (told.Safe f) = None
schedule_at n (told.Rejected f) = if n == 1 then f.schedule else None
