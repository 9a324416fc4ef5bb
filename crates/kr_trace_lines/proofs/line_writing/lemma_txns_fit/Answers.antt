use Rattle.std.proofs.Common.{subst, sym, take, All}
use Rattle.std.proofs.lemmas.List.{take_all, take_more}
use Rattle.std.proofs.lemmas.List.Elements.{All-push}
use Rattle.kr_trace_lines.specs.Steps.{TxnFits}
use Rattle.kr_trace_lines.proofs.line_writing.lemma_txns_fit.Goals as goal

-- at the end all have been looked at
pub returns : goal.returns
returns c = subst (All TxnFits) (take_all c.loop-txn.txn-index c.args.txns.now c.loop-txn-test.false) c.loop-txn.invariant

-- one more
pub loop-txn-preserved : goal.loop-txn-preserved
loop-txn-preserved c =
    subst (All TxnFits) (sym (take_more c.args.txns.now c.loop-txn.txn-index _ c.loop-txn-test.true)) (All-push TxnFits (take c.loop-txn.txn-index c.args.txns.now) _ c.loop-txn.invariant c.lemma_txn_fits.ensures)
