use Rattle.kr_txn.specs.Numbered.{AreOthers}
use Rattle.kr_txn.proofs.numbered.position.Given as goal

-- The transaction stands at no place so far.
abbrev pub invariant-loop-i : goal.invariant-loop-i
invariant-loop-i g l = AreOthers g.T.Numbered.number l.txn l.list l.i
