use Rattle.std.proofs.Common.{◌≡◌, ◌&&◌, drop}
use Rattle.kr_trace_lines.specs.Parts.{are_distinct, are_in}
use Rattle.kr_trace_lines.proofs.Distinct.{are_fresh}
use Rattle.kr_trace_lines.proofs.parts.are_distinct_in.Given as goal

-- what is left to see: that the rest has committed, is distinct, and none of it came before
abbrev pub invariant-loop-txn : goal.invariant-loop-txn
invariant-loop-txn l = (are_in l.committed.numbers l.txns && are_distinct l.txns) ≡ are_fresh l.committed.numbers l.before.numbers (drop l.txn-index l.txns)
