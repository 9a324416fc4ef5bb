use Rattle.std.proofs.Common.{string_bytes}
use Rattle.kr_explain_text.specs.Steps.{texts, txn_words}
use Rattle.kr_explain_text.proofs.Rowed.{put_more}
use Rattle.kr_explain_text.proofs.cells.put_txns.Goals as goal

pub loop-txn-preserved : goal.loop-txn-preserved
loop-txn-preserved c = put_more txn_words c.args.txns.now c.loop-txn.txn-index 0 (texts c.args.cells.now.items) (texts c.loop-txn.cells.items) _ (string_bytes c.in_ok-cell.cell) c.loop-txn-test.true c.in_ok-cell.ensures.ok c.in_ok-put.ensures c.loop-txn.invariant
