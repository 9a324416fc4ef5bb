use Rattle.std.proofs.Common.{◌≡◌, ◌++◌, drop}
use Rattle.std.specs.Vec.{vec_len}
use Rattle.kr_txn.specs.Standings.{entries}
use Rattle.kr_ghost_machine.proofs.copies.active.Given as goal

-- Those so far, then those that are left, are all.
abbrev pub invariant-loop-one : goal.invariant-loop-one
invariant-loop-one l = record {
  all : entries l.copy.items ++ entries (drop l.one-index l.active) ≡ entries l.active;
  len : vec_len l.copy ≡ l.one-index;
}
