use Rattle.std.proofs.Common.{◌≡◌, ◌++◌}
use Rattle.kr_locks.specs.Buckets.{listed, AreHolders}
use Rattle.kr_locks.proofs.names.gather.Given as goal

-- the locks so far, with those on the names that are left, are all
abbrev pub invariant-loop-key : goal.invariant-loop-key
invariant-loop-key l = record {
  listed : l.all.items ++ listed l.key-iterator ≡ listed l.names.entries;
  in_order : AreHolders l.key-iterator → AreHolders l.names.entries;
}
