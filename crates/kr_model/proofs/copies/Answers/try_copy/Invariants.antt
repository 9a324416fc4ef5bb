use Rattle.std.proofs.Common.{◌≡◌, take}
use Rattle.kr_model.proofs.copies.Answers.try_copy.Given as goal

-- The operations so far are copied.
abbrev pub invariant-loop-op : goal.invariant-loop-op
invariant-loop-op l = l.list.items ≡ take l.op-index l.operations
