use Rattle.std.proofs.Common.{◌<◌, ◌-◌, map, take}
use Rattle.std.specs.Prelude.{All}
use Rattle.kr_workers.specs.Follows.{AreRising}
use Rattle.kr_workers.specs.Counts.{missed_before}
use Rattle.kr_workers.specs.Placed.{IsStart, IsBetween}
use Rattle.kr_workers.proofs.placing.are_placed.Given as goal

-- the steps so far were left out where their transactions came to them
abbrev pub invariant-loop-i : goal.invariant-loop-i
invariant-loop-i l = record {
  start : 0 < l.i → IsStart (map (λ x. x.fault.txn) l.left_out) (l.i - 1) l.first;
  placed : AreRising (map (λ x. x.fault) l.left_out) → All (λ x. IsBetween l.events (missed_before (map (λ x. x.fault) l.left_out) x.fault.txn x.fault.step) x) (take l.i l.left_out);
}
