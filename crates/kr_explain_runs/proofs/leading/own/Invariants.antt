use Rattle.std.proofs.Common.{◌≡◌, drop}
use Rattle.kr_model.specs.Locks.{own}
use Rattle.kr_explain_runs.proofs.leading.own.Given as goal

-- The locks that are left tell the mode.
abbrev pub invariant-loop-lock : goal.invariant-loop-lock
invariant-loop-lock l = own (drop l.lock-index l.locks) l.txn l.name ≡ own l.locks l.txn l.name
