use Rattle.std.proofs.Common.{ℕ, ◌<◌, get_or}
use Rattle.kr_txn.proofs.numbered.place.Given as goal

-- The numbers so far are below that of the transaction.
abbrev pub invariant-loop-i : goal.invariant-loop-i
invariant-loop-i g l = (j : ℕ) (d : g.row.T.Denot) → j < l.i → g.T.Numbered.number (get_or l.list j d) < l.txn
