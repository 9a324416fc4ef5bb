-- the transactions so far have their cells
use Rattle.std.proofs.Common.{◌≡◌, ◌++◌, map, take}
use Rattle.kr_explain_text.specs.Steps.{texts, txn_words}
use Rattle.kr_explain_text.proofs.cells.put_txns.Given as goal

abbrev pub invariant-loop-txn : goal.invariant-loop-txn
invariant-loop-txn l = texts l.cells.items ≡ texts l.initial.cells.items ++ map txn_words (take l.txn-index l.txns)
