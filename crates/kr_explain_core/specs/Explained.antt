-- What is explained of a protocol table: whether it is accepted, or else safe; and where cases fail, what is to blame, with why it
-- is harmless or runs that go wrong, and changes that mend.
use Rattle.std.specs.Prelude.{◌≡◌, ◌↔◌, ℕ, ◌-◌, ◌==◌, List, All, map, length, Bool, true, false, Option, None, IfSome, is_some, slice_get, option_and_then, if◌then◌else◌}
use Rattle.std.specs.List.{list_any}
use Rattle.std.specs.List.Sorted.{IsPermutation}
use Rattle.kr_model.specs.declared.FailedCase.{FailedCase}
use Rattle.kr_model.specs.Protocol.{Protocol}
use Rattle.kr_model.specs.Covers.{IsCovered, failed_cases, cases}
use Rattle.kr_model.specs.Safe.{IsSafe}
use Rattle.kr_explain_causes.specs.declared.cause.Cause.{Cause}
use Rattle.kr_explain_causes.specs.Causes.{ShareOut}
use Rattle.kr_explain_causes.specs.Mends.{AreMends, AreOfOneEntry}
use Rattle.kr_explain_causes.specs.Shares.{IsCause}
use Rattle.kr_decide.specs.Survey.{IsSurvey}
use Rattle.kr_theorem.specs.Ordered.{IsOrdered}
use Rattle.kr_theorem.specs.Wrong.{GoesWrong}
use Rattle.kr_explain_core.specs.Harmless.{IsHarmless, IsReason}
use Rattle.kr_explain_core.specs.Tried.{AreTried, IsUntried}
use Rattle.kr_explain_core.specs.declared.run.Run.{Run}
use Rattle.kr_explain_core.specs.declared.explanation.Explained.{Explained}
use Rattle.kr_explain_core.specs.declared.explanation.Failures.{Failures}
use Rattle.kr_explain_core.specs.declared.explanation.Explanation.{Explanation}
use Rattle.kr_explain_core.specs.declared.explanation.Explanation.TheVariants as told

-- The script of a run goes wrong under p.
abbrev pub GoesWrongWith : Protocol → Run → Type 0
GoesWrongWith p run = GoesWrong p run.script.opening.items run.script.events.items

-- What is told of a cause, where these cases of p fail.
pub record IsTold (p : Protocol) (failed : List FailedCase) (e : Explained) : Type 0 where
  -- it is said to be harmless exactly where it is, and why
  pub harmless : is_some e.harmless ≡ true ↔ IsHarmless p failed e.cause.cases.items
  pub reason : IfSome e.harmless (IsReason p e.cause.cases.items)
  -- the run that is told, if there is one, goes wrong
  pub wrong : IfSome e.run (GoesWrongWith p)
  -- its cases were tried in this order, from the first on; none where it is harmless
  pub order : List FailedCase
  pub same : IsPermutation e.cause.cases.items order
  pub tried : AreTried p order e.tried e.runs e.run e.is_reached
  pub untried : is_some e.harmless ≡ true → IsUntried e.tried e.runs e.run e.is_reached
  -- each change that is named mends the cause's cases, and all are of the entry that is to blame
  pub mended : IfSome e.mend (AreMends p e.cause.cases.items failed)
  pub entry : IfSome e.mend (AreOfOneEntry e.cause.blame)

-- The causes that are told.
abbrev pub causes_of : List Explained → List Cause
causes_of told = map (λ e. e.cause) told

-- Why cases of p fail, where these do.
pub record AreFailures (p : Protocol) (failed : List FailedCase) (f : Failures) : Type 0 where
  -- it has so many cases, and so many of them fail
  pub has_cases : f.cases ≡ length (cases p)
  pub has_failed : f.failed ≡ length failed
  -- it is said to be ordered exactly where it is
  pub ordered : f.is_ordered ≡ true ↔ IsOrdered p
  -- what schedules reach is found
  pub survey : IsSurvey p f.survey
  -- each failed case is in exactly one of the causes
  pub shared : ShareOut (causes_of f.causes.items) failed
  -- what is to blame is a reason of each of a cause's cases, which stand in their order
  pub blamed : All (IsCause p failed) (causes_of f.causes.items)
  pub told : All (IsTold p failed) f.causes.items

-- Each of the causes is told to be harmless.
abbrev pub AreHarmless : Failures → Type 0
AreHarmless f = All (λ e. is_some e.harmless ≡ true) f.causes.items

-- Whether some cause has a run that goes wrong.
abbrev pub has_run : Failures → Bool
has_run f = list_any (λ e. is_some e.run) f.causes.items

-- Whether a table is told to be accepted.
abbrev pub is_accepted : Explanation → Bool
is_accepted (told.Accepted cases) = true
is_accepted (told.Safe f) = false
is_accepted (told.Rejected f) = false

-- Whether a table is told to be safe, accepted or not.
abbrev pub is_safe : Explanation → Bool
is_safe (told.Accepted cases) = true
is_safe (told.Safe f) = true
is_safe (told.Rejected f) = false

-- What is told of p.
abbrev pub Tells : Protocol → Explanation → Type 0
Tells p (told.Accepted n) = n ≡ length (cases p)
Tells p (told.Safe f) = AreFailures p (failed_cases p) f × AreHarmless f
Tells p (told.Rejected f) = AreFailures p (failed_cases p) f

-- An explanation of p: it tells that p is accepted exactly where p is covered, and that p is safe, accepted or not, exactly where it is.
pub record IsExplained (p : Protocol) (e : Explanation) : Type 0 where
  pub accepted : is_accepted e ≡ true ↔ IsCovered p
  pub safe : is_safe e ≡ true ↔ IsSafe p
  pub told : Tells p e

-- The run of the cause of a number, from 1, if there is such a cause and it has one. A table that is safe has none.
abbrev pub run_at : ℕ → Explanation → Option Run
run_at n (told.Accepted cases) = None
run_at n (told.Safe f) = None
run_at n (told.Rejected f) = if n == 0 then None else option_and_then (λ e. e.run) (slice_get f.causes.items (n - 1))
