-- the list is as it was, and the numbers so far are below the one to be put
use Rattle.std.proofs.Common.{ℕ, ◌≡◌, ◌<◌, get_or}
use Rattle.kr_explain_text.proofs.cells.put_once.Given as goal

abbrev pub invariant-loop-at : goal.invariant-loop-at
invariant-loop-at l = record {
  same : l.txns.items ≡ l.initial.txns.items;
  below : (k : ℕ) → k < l.at → get_or l.txns.items k 0 < l.txn;
}
