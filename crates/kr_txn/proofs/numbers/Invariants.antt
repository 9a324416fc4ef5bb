use Rattle.std.proofs.Common.{◌≡◌, ℕ, ◌++◌, drop, map}
use Rattle.kr_model.specs.State.{Active}
use Rattle.kr_txn.specs.Standings.{entries}
use Rattle.kr_txn.proofs.numbers.Given as goal

-- The numbers so far, then those of what is left, are all.
abbrev pub invariant-loop-standing : goal.invariant-loop-standing
invariant-loop-standing l = l.numbers.items ++ map (λ (a : ℕ × Active). a.0) (entries (drop l.standing-index l.list)) ≡ map (λ (a : ℕ × Active). a.0) (entries l.list)
