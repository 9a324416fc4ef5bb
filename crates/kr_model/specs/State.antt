-- The machine's state: the index, the locks, and how each transaction stands.
use Rattle.std.specs.Prelude.{ℕ, Bool, false, ◌==◌, List, [], Option, None, is_some, unwrap_or}
use Rattle.std.specs.Ordering.{nat_cmp}
use Rattle.std.specs.FinMap.{find}
use Rattle.std.specs.List.{list_any}
use Rattle.kr_model.specs.Map.{Map, Changes}
use Rattle.kr_model.specs.Locks.{Locks}
use Rattle.kr_model.specs.Covers.{is_empty}

-- A scan in progress: the ends of its range, and the pairs that it has read, rising.
pub record Scan : Type 0 where
  pub lo : ℕ
  pub hi : ℕ
  pub rows : List (ℕ × ℕ)

-- An active transaction: its scan in progress, if there is one, its changes left, newest first, and whether it rolls back.
pub record Active : Type 0 where
  pub scan : Option Scan
  pub changes : Changes
  pub rolling : Bool

-- The state between two steps.
pub record State : Type 0 where
  pub map : Map
  pub locks : Locks
  -- the transactions that have committed or aborted, rising
  pub ended : List ℕ
  -- the active transactions, rising
  pub active : List (ℕ × Active)

-- The state at the start: the opening map, no locks, and no transactions.
abbrev pub start : Map → State
start m = record { map = m; locks = []; ended = []; active = [] }

-- A transaction that has done nothing.
abbrev pub idle : Active
idle = record { scan = None; changes = []; rolling = false }

-- How t stands, where it is active.
abbrev pub active_of : State → ℕ → Option Active
active_of s t = find nat_cmp t s.active

-- How t stands; one that isn't active has done nothing.
abbrev pub standing : State → ℕ → Active
standing s t = unwrap_or (active_of s t) idle

-- Whether t has committed or aborted.
abbrev pub has_ended : State → ℕ → Bool
has_ended s t = list_any (λ u. u == t) s.ended

-- Whether t has a scan in progress.
abbrev pub is_scanning : State → ℕ → Bool
is_scanning s t = is_some (standing s t).scan

-- Whether t rolls back: it has taken a change back.
abbrev pub is_rolling : State → ℕ → Bool
is_rolling s t = (standing s t).rolling

-- Whether t has no change left that it could undo.
abbrev pub has_nothing_left : State → ℕ → Bool
has_nothing_left s t = is_empty (standing s t).changes
