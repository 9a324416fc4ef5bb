use Rattle.std.specs.Prelude.{All, take}
use Rattle.kr_trace_lines.specs.Steps.{TxnFits}
use Rattle.kr_trace_lines.proofs.line_writing.lemma_txns_fit.Given as goal

-- those so far fit
abbrev pub invariant-loop-txn : goal.invariant-loop-txn
invariant-loop-txn l = All TxnFits (take l.txn-index l.txns)
