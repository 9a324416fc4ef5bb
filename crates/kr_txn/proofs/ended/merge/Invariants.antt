use Rattle.std.proofs.Common.{◌≡◌, ℕ, ◌+◌, ◌-◌, ◌<◌, ◌≤◌, length, get_or, take}
use Rattle.kr_txn.specs.EndedNumbers.{union}
use Rattle.kr_txn.proofs.Unions.{placed}
use Rattle.kr_txn.proofs.ended.merge.Given as goal

-- The numbers that are left and those that have their place are both lists together; those that are left stand as they
-- stood, and the next recent one is below all that have their place.
abbrev pub invariant-loop-more : goal.invariant-loop-more
invariant-loop-more l = record {
  in_first : l.left ≤ l.first;
  in_recent : l.more ≤ length l.recent;
  in_places : l.left + l.more ≤ length l.places;
  numbers : union (take l.more l.recent) (placed l.places l.left l.more) ≡ union l.recent (take l.first l.fn.places);
  kept : (k : ℕ) → k < l.left → get_or l.places k 0 ≡ get_or (take l.first l.fn.places) k 0;
  next : 0 < l.more → l.left + l.more < length l.places → get_or l.recent (l.more - 1) 0 < get_or l.places (l.left + l.more) 0;
}

abbrev pub decreases-loop-more : goal.decreases-loop-more
decreases-loop-more l = l.left + l.more
