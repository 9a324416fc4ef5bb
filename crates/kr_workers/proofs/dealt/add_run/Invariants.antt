use Rattle.std.proofs.Common.{◌≡◌, ◌++◌, map}
use Rattle.std.specs.Prelude.{All}
use Rattle.kr_workers.specs.Dealt.{between}
use Rattle.kr_workers.proofs.dealt.add_run.Given as goal

-- The events so far are of the transaction, and their operations are added.
abbrev pub invariant-loop-end : goal.invariant-loop-end
invariant-loop-end l = All (λ e. e.txn ≡ l.txn) (between l.start l.end l.events) × (l.ops.items ≡ l.fn.ops.items ++ map (λ e. e.op) (between l.start l.end l.events))
