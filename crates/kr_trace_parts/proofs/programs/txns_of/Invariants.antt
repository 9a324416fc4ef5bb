-- the transactions so far
use Rattle.std.specs.Prelude.{◌≡◌, map, take}
use Rattle.kr_trace_parts.specs.Kept.{shown}
use Rattle.kr_trace_parts.proofs.programs.txns_of.Given as goal

abbrev pub invariant-loop-i : goal.invariant-loop-i
invariant-loop-i l = l.txns.items ≡ map (λ c. c.txn) (map shown (take l.i l.committed))
