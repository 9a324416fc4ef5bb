-- All pairs of lock states that two transactions can have on one name.
use Rattle.std.specs.Prelude.{ℕ, ◌<◌, ◌≤◌, List, length}
use Rattle.kr_model.specs.declared.LockState.{LockState}
use Rattle.kr_model.specs.Protocol.{Protocol}
use Rattle.kr_model.specs.Safe.{Beside}
use Rattle.kr_decide.specs.declared.pair.Pair.{Pair}
use Rattle.kr_decide.specs.Pairs.{pair_at, AreDerived}
use Rattle.kr_decide.specs.Findings.{Has}

-- The list has exactly these pairs. Their modes are modes of the protocol, or no lock.
pub record AreAllPairs (p : Protocol) (pairs : List Pair) : Type 0 where
  pub derived : AreDerived p pairs
  pub beside : (k : ℕ) → k < length pairs → Beside p (pair_at pairs k).own (pair_at pairs k).other
  pub listed : (x y : LockState) → Beside p x y → Has pairs x y
  pub own : (k : ℕ) → (pair_at pairs k).own.mode ≤ p.count
  pub other : (k : ℕ) → (pair_at pairs k).other.mode ≤ p.count
