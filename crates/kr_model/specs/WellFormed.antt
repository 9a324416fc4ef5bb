-- What always holds of a state that a run reaches.
use Rattle.std.specs.Prelude.{◌≡◌, ℕ, ◌≤◌, true, None, IsTrue, length}
use Rattle.std.specs.Ordering.{nat_cmp}
use Rattle.std.specs.FinMap.{is_sorted}
use Rattle.std.specs.List.Sorted.{IsStrictlyIncreasing}
use Rattle.kr_model.specs.Protocol.{Protocol}
use Rattle.kr_model.specs.Map.{IsMap}
use Rattle.kr_model.specs.Locks.{IsLocks, AreWithin, HasNoNone}
use Rattle.kr_model.specs.State.{State, active_of, has_ended}

-- A state under p is well formed.
pub record IsState (p : Protocol) (s : State) : Type 0 where
  -- the keys of the index rise
  pub is_map : IsMap s.map
  -- the holders of locks rise, each with one mode: a mode of p, and never 0
  pub are_locks : IsLocks s.locks
  pub within : AreWithin p.count s.locks
  pub no_none : HasNoNone s.locks
  -- the transactions that have ended rise
  pub ended : IsStrictlyIncreasing s.ended
  -- the active ones rise, and there are at most 64
  pub active : IsTrue (is_sorted nat_cmp s.active)
  pub few : length s.active ≤ 64
  -- none of them has ended
  pub apart : (t : ℕ) → has_ended s t ≡ true → active_of s t ≡ None
