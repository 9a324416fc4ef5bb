-- A machine over an index with ghosts, as contracts see it, and what always holds of its parts.
use Rattle.std.specs.Prelude.{◌≡◌, ℕ, ◌≤◌, List, None, Vec}
use Rattle.std.specs.Vec.{vec_len}
use Rattle.std.specs.declared.alloc.Global.{Global}
use Rattle.std.specs.Ordering.{nat_cmp}
use Rattle.std.specs.FinMap.{find}
use Rattle.kr_model.specs.declared.Name.{Name}
use Rattle.kr_model.specs.Protocol.{Protocol}
use Rattle.kr_model.specs.Locks.{Locks, own}
use Rattle.kr_model.proofs.Requests.{AreLocks}
use Rattle.kr_model.specs.State.{Active}
use Rattle.kr_ghost.specs.State.{GhostState}
use Rattle.kr_ghost_index.specs.Index.{GhostIndex, changes}
use Rattle.kr_txn.specs.declared.Standing.{Standing}
use Rattle.kr_txn.specs.EndedNumbers.{EndedNumbers}
use Rattle.kr_txn.specs.Standings.{entries, IsInOrder}
use Rattle.kr_touch.specs.Pins.{all_changes_of}

-- Its protocol, and its state between two moves.
pub record GhostSteps (P : Type 0) : Type 0 where
  pub protocol : P
  pub state : GhostState

-- The state of these parts: an index, the locks, the transactions that have ended, and the active ones.
abbrev pub shown : GhostIndex → Locks → List ℕ → List (ℕ × Active) → GhostState
shown x h ended active = record { state = record { map = x.map; locks = h; ended = ended; active = active }; ghosts = x.ghosts }

-- Who holds a lock is active.
abbrev pub AreHeld : Locks → List (ℕ × Active) → Type 0
AreHeld h active = (t : ℕ) → find nat_cmp t active ≡ None → (n : Name) → own h t n ≡ 0

-- What always holds of the index, the locks and the transactions, whatever the protocol.
pub record IsAtRest (x : GhostIndex) (h : Locks) (ended : EndedNumbers) (active : Vec Standing Global) : Type 0 where
  -- the active transactions rise, and each has room among those that have ended
  pub in_order : IsInOrder active.items
  pub room : vec_len active ≤ ended.room
  pub held : AreHeld h (entries active.items)
  -- the index counts the changes that the active ones have left
  pub counted : (q : ℕ) → changes x q ≡ all_changes_of (entries active.items) q

-- What always holds of the parts.
pub record IsGhostMachine (p : Protocol) (x : GhostIndex) (h : Locks) (ended : EndedNumbers) (active : Vec Standing Global) : Type 0 where
  -- the holders of locks rise, each with one mode of p
  pub locks : AreLocks p h
  pub rest : IsAtRest x h ended active
