use Rattle.std.proofs.Common.{◌≡◌, ◌≤◌, ◌++◌, map}
use Rattle.std.specs.Prelude.{All}
use Rattle.kr_workers.specs.Dealt.{between}
use Rattle.kr_workers.proofs.undoing.take_run.Given as goal

-- The events from the place on are of the transaction, and their operations are taken.
abbrev pub invariant-loop-start : goal.invariant-loop-start
invariant-loop-start l = record {
  within : l.start ≤ l.end;
  of_one : All (λ e. e.txn ≡ l.txn) (between l.start l.end l.events);
  taken : l.fn.ops.items ≡ l.ops.items ++ map (λ e. e.op) (between l.start l.end l.events);
}

-- The events that are left.
abbrev pub decreases-loop-start : goal.decreases-loop-start
decreases-loop-start l = l.start
