use Rattle.std.proofs.Common.{[], ap, codes, map, string_bytes}
use Rattle.kr_explain_text.specs.Steps.{texts, txn_words}
use Rattle.kr_explain_text.proofs.Rowed.{heads}
use Rattle.kr_explain_text.proofs.cells.head_cells.Goals as goal

pub returns : goal.returns
returns c = heads (texts c.new-cells.result.items) (texts c.put.new.cells.items) (texts c.put_txns.new.cells.items) (texts c.put-2.new.cells.items) (texts c.put-3.new.cells.items) (map txn_words c.args.txns.now) (string_bytes c.new.result) (string_bytes c.in_ok-answer.answer) (string_bytes c.in_ok-locks.locks) [] (codes "answer") (codes "locks afterwards") (ap texts c.new-cells.ensures.items) c.in_ok-put.ensures c.in_ok-put_txns.ensures c.in_ok-put-2.ensures c.in_ok-put-3.ensures c.new.ensures.bytes c.in_ok-answer.ensures.ok c.in_ok-locks.ensures.ok
