-- What was tried for the cases of a cause: how many of them have a schedule that goes wrong, and the schedule that is shown.
use Rattle.std.specs.Prelude.{◌≡◌, ◌≤◌, ◌<◌, ◌⊎◌, ℕ, suc, zero, List, [], ◌∷◌, Bool, true, false, length, take, Contains, Option, None, IfSome, if◌then◌else◌}
use Rattle.std.specs.List.{Any}
use Rattle.kr_model.specs.declared.FailedCase.{FailedCase}
use Rattle.kr_model.specs.Protocol.{Protocol}
use Rattle.kr_explain_runs.specs.declared.counterexample.Counterexample.{Counterexample}
use Rattle.kr_explain_runs.specs.declared.fit.Fit.{Fit}
use Rattle.kr_explain_runs.specs.declared.fit.Fit.TheVariants.{Case, Mode}
use Rattle.kr_explain_runs.specs.Comes.{CanComeTo}
use Rattle.kr_explain_runs.specs.Marks.{AreMarked}
use Rattle.kr_theorem.specs.Wrong.{GoesWrong}
use Rattle.kr_explain_core.specs.declared.run.Run.{Run}

-- How near the script of a run is to its case.
abbrev pub fit_of : Run → Fit
fit_of run = if run.is_as_case then Case else Mode

-- A script goes wrong under p, and its marks are those of its run: its lock that is too weak is that of this case.
pub record IsScheduleOf (p : Protocol) (f : FailedCase) (fit : Fit) (c : Counterexample) : Type 0 where
  pub wrong : GoesWrong p c.opening.items c.events.items
  pub marked : AreMarked p f fit c

-- Some script of the case goes wrong under p.
abbrev pub HasSchedule : Protocol → FailedCase → Type 0
HasSchedule p f = (fit : Fit) × ((c : Counterexample) × IsScheduleOf p f fit c)

-- The run is that of one of these cases.
pub record IsRunOf (p : Protocol) (cases : List FailedCase) (run : Run) : Type 0 where
  pub of_case : Contains cases run.case
  pub schedule : IsScheduleOf p run.case (fit_of run) run.script

-- At least n of the elements are so.
abbrev pub AreAtLeast : {A : Type 0} → (A → Type 0) → ℕ → List A → Type 0
AreAtLeast P zero xs = Unit {0}
AreAtLeast P (suc n) [] = ⊥
AreAtLeast P (suc n) (x ∷ xs) = (P x × AreAtLeast P n xs) ⊎ AreAtLeast P (suc n) xs

-- The first so many of these cases of p were tried, and so many gave a schedule.
pub record AreTried (p : Protocol) (cases : List FailedCase) (tried runs : ℕ) (run : Option Run) (is_reached : Bool) : Type 0 where
  pub some : tried ≤ length cases
  pub few : runs ≤ tried
  -- at least so many of those that were tried have a schedule
  pub schedules : AreAtLeast (HasSchedule p) runs (take tried cases)
  -- the run that is told, if there is one, is that of one of them, and is counted
  pub shown : IfSome run (IsRunOf p (take tried cases))
  pub counted : IfSome run (λ r. 0 < runs)
  -- where a case is said to be reached, a transaction can come to one of them
  pub reached : is_reached ≡ true → Any (CanComeTo p) (take tried cases)

-- No case was tried, and nothing is told.
abbrev pub IsUntried : ℕ → ℕ → Option Run → Bool → Type 0
IsUntried tried runs run is_reached = (tried ≡ 0) × (runs ≡ 0) × (run ≡ None) × (is_reached ≡ false)
