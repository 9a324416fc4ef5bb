use Rattle.std.proofs.Common.{◌≡◌, length}
use Rattle.kr_records.proofs.queues.Queues.new.Given as goal

-- one queue was made each turn
abbrev pub invariant-loop : goal.invariant-loop
invariant-loop l = length l.queues.items ≡ l.counter
