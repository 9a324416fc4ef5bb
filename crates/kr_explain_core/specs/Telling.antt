-- What is told of a run, while the cases of a cause are tried one after another.
use Rattle.std.specs.Prelude.{◌≡◌, ◌≤◌, ◌⊎◌, ◌+◌, ◌*◌, ℕ, List, Bool, true, Option, Some, None, vec_len}
use Rattle.std.specs.List.Sorted.{IsPermutation}
use Rattle.kr_model.specs.declared.FailedCase.{FailedCase}
use Rattle.kr_model.specs.Protocol.{Protocol}
use Rattle.kr_explain_runs.specs.declared.closure.Closure.{Closure}
use Rattle.kr_explain_runs.specs.declared.counterexample.Counterexample.{Counterexample}
use Rattle.kr_explain_core.specs.declared.effort.Effort.{Effort}
use Rattle.kr_explain_core.specs.declared.run.Run.{Run}
use Rattle.kr_explain_core.specs.declared.told_run.ToldRun.{ToldRun}
use Rattle.kr_explain_core.specs.Tried.{AreTried, IsUntried}

-- What is told of the first of these cases, of which so many were tried.
abbrev pub AreToldOf : Protocol → List FailedCase → ToldRun → Type 0
AreToldOf p cases told = AreTried p cases told.tried told.runs told.run told.is_reached

-- The same of the cases in some order.
pub record AreToldInOrder (p : Protocol) (cases : List FailedCase) (t : ToldRun) : Type 0 where
  pub order : List FailedCase
  pub same : IsPermutation cases order
  pub told : AreToldOf p order t

-- No case was tried, and nothing is told.
abbrev pub IsUntold : ToldRun → Type 0
IsUntold told = IsUntried told.tried told.runs told.run told.is_reached

-- So many searches, of which each looks at each state of the closure, are within the effort.
abbrev pub AreWithin : Effort → Closure → ℕ → Type 0
AreWithin effort closure tried = tried * vec_len closure.reached ≤ effort.states

-- A run of this case and script.
pub record IsRunWith (case : FailedCase) (is_as_case : Bool) (script : Counterexample) (run : Run) : Type 0 where
  pub case_is : run.case ≡ case
  pub as_case : run.is_as_case ≡ is_as_case
  pub script_is : run.script ≡ script

-- The run is that of this case and script.
abbrev pub HasRunOf : FailedCase → Option Counterexample → Option Run → Type 0
HasRunOf f (Some c) (Some run) = IsRunWith f true c run
HasRunOf f _ _ = ⊥

-- So many schedules a script is.
abbrev pub count_of : Option Counterexample → ℕ
count_of None = 0
count_of (Some c) = 1

-- What is told once one case more was tried, which gave this script or none: the run before, or that of the script.
pub record IsToldAfter (f : FailedCase) (script : Option Counterexample) (old new : ToldRun) : Type 0 where
  pub tried : new.tried ≡ old.tried + 1
  pub runs : new.runs ≡ old.runs + count_of script
  pub is_reached : new.is_reached ≡ old.is_reached
  pub run : (new.run ≡ old.run) ⊎ HasRunOf f script new.run
