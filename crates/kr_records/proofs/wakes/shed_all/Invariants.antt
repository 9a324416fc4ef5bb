use Rattle.std.proofs.Common.{ℕ, List, Contains}
use Rattle.std.specs.Vec.{vec_len}
use Rattle.kr_deadlock.specs.declared.Waiting.{Waiting}
use Rattle.kr_records.specs.Waits.{AreDeadlocked, HaveEntries}
use Rattle.kr_records.proofs.wakes.shed_all.Given as goal

-- those that are deadlocked are there still, and nobody came
abbrev pub invariant-loop : goal.invariant-loop
invariant-loop l = record {
  stay : (blockers : ℕ → List ℕ) (txns : List ℕ) → AreDeadlocked blockers txns → HaveEntries blockers txns l.fn.waits.items → HaveEntries blockers txns l.waits.items;
  given : (w : Waiting) → Contains l.waits.items w → Contains l.fn.waits.items w;
}

abbrev pub decreases-loop : goal.decreases-loop
decreases-loop l = vec_len l.waits
