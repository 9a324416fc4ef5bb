use Rattle.std.proofs.Common.{◌≡◌, ◌+◌, ◌≤◌, [], drop, length}
use Rattle.kr_ghost_machine.specs.Endings.{with_each}
use Rattle.kr_ghost_machine.proofs.endings.Endings.try_copy.Given as goal

-- Those so far, then those that are left, are all, and there is room for the latter and for the rest.
abbrev pub invariant-loop-txn : goal.invariant-loop-txn
invariant-loop-txn l = record {
  all : with_each l.copy.numbers (drop l.txn-index l.txn-items) ≡ with_each [] l.txn-items;
  room : length l.txn-items + l.self-inside.room ≤ l.copy.room + l.txn-index;
}
