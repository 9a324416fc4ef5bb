-- All pairs of lock states that two transactions can have on one name.
use Rattle.std.specs.Prelude.{◌≡◌, ℕ, ◌<◌, Bool, true, List, All, Contains, slice_index_or, Option, Some, None}
use Rattle.kr_ghost.specs.Protocol.{GhostProtocol}
use Rattle.kr_ghost.specs.Safe.{Hold, Beside}
use Rattle.kr_ghost_decide.specs.declared.hold.Pair.{Pair}
use Rattle.kr_ghost_decide.specs.Holds.{Fact, fact}
use Rattle.kr_ghost_decide.specs.Found.{IsReached, has, found_at}

-- What two transactions have on one name.
abbrev pub having : Bool → Hold → Hold → Fact
having present x y = record { present = present; own = x; other = y }

-- The list has what two have.
pub record HasFact (pairs : List Pair) (f : Fact) : Type 0 where
  pub pair : Pair
  pub there : Contains pairs pair
  pub is : fact pair ≡ f

-- The list has exactly what two transactions can have on one name, in modes of the protocol, or without a lock.
pub record AreAllPairs (p : GhostProtocol) (pairs : List Pair) : Type 0 where
  pub reached : All (λ q. IsReached p (fact q)) pairs
  pub listed : (present : Bool) (x y : Hold) → Beside p present x y → HasFact pairs (having present x y)

-- Finding them --

-- Whatever two can have is marked.
abbrev pub HasEvery : GhostProtocol → List Bool → Type 0
HasEvery p marks = (present : Bool) (x y : Hold) → Beside p present x y → has marks (having present x y) ≡ true

-- The list has it, if there is anything.
abbrev pub HasFactOf : List Pair → Option Fact → Type 0
HasFactOf pairs None = Unit {0}
HasFactOf pairs (Some f) = HasFact pairs f

-- The list has each of the first n places that are marked, and nothing that isn't reached.
pub record AreListed (p : GhostProtocol) (marks : List Bool) (n : ℕ) (pairs : List Pair) : Type 0 where
  pub reached : All (λ q. IsReached p (fact q)) pairs
  pub listed : (k : ℕ) → k < n → HasFactOf pairs (found_at marks k)
