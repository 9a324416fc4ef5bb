-- What becomes of the steps that a transaction comes to.
use Rattle.std.specs.Prelude.{◌≡◌, ◌≤◌, ℕ, true, false, List, length, if◌then◌else◌}
use Rattle.std.specs.List.Sorted.{IsPartitionPoint}
use Rattle.kr_script.specs.declared.not_done.StepFault.{StepFault}
use Rattle.kr_workers.specs.declared.wanted.Fate.{Fate}
use Rattle.kr_workers.specs.declared.wanted.Fate.TheVariants.{Done, Missed, Stuck}
use Rattle.kr_workers.specs.Follows.{is_before, is_missed, is_stuck}

-- What becomes of this step of this transaction: it meets a deadlock, is missed by another fault, or is done.
abbrev pub fate_of : List StepFault → ℕ → ℕ → Fate
fate_of faults t n = if is_stuck faults t n then Stuck else if is_missed faults t n then Missed else Done

-- The faults below this place come before the step, and those from it on don't.
pub record IsPlace (faults : List StepFault) (t n p : ℕ) : Type 0 where
  pub within : p ≤ length faults
  pub parts : IsPartitionPoint (λ f. is_before t n f ≡ true) (λ f. is_before t n f ≡ false) faults p
