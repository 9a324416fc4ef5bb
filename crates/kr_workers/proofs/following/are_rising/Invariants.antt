use Rattle.std.proofs.Common.{◌≡◌, ℕ, ◌<◌, true}
use Rattle.std.specs.Prelude.{slice_index_or}
use Rattle.kr_script.specs.declared.not_done.StepFault.{StepFault}
use Rattle.kr_workers.specs.Follows.{is_before}
use Rattle.kr_workers.proofs.following.are_rising.Given as goal

-- Each of the faults so far comes before all later ones of them.
abbrev pub invariant-loop-i : goal.invariant-loop-i
invariant-loop-i l = (j k : ℕ) (d : StepFault) → j < k → k < l.i → is_before (slice_index_or l.faults k d).txn (slice_index_or l.faults k d).step (slice_index_or l.faults j d) ≡ true
