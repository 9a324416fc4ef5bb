-- What always holds of a state that a run with ghosts reaches.
use Rattle.std.specs.Prelude.{◌≡◌, ℕ, true, None, is_some}
use Rattle.std.specs.Ordering.{nat_cmp}
use Rattle.std.specs.FinMap.{find}
use Rattle.std.specs.List.Sorted.{IsStrictlyIncreasing}
use Rattle.kr_model.specs.declared.Name.TheVariants.{Key}
use Rattle.kr_model.specs.Locks.{IsLocks, AreWithin, HasNoNone, own}
use Rattle.kr_model.specs.Map.{IsMap, get}
use Rattle.kr_model.specs.State.{standing}
use Rattle.kr_ghost.specs.Protocol.{GhostProtocol}
use Rattle.kr_ghost.specs.State.{GhostState, Absent, stand, among}

pub record IsGhostState (p : GhostProtocol) (s : GhostState) : Type 0 where
  -- the keys of the index rise, and so do the ghosts, none of which is present
  pub is_map : IsMap s.state.map
  pub rising : IsStrictlyIncreasing s.ghosts
  pub absent : (k : ℕ) → among s.ghosts k ≡ true → get s.state.map k ≡ None
  -- the holders of locks rise, each with one mode, which is a mode of p; and each lock is on a name
  pub are_locks : IsLocks s.state.locks
  pub within : AreWithin p.table.count s.state.locks
  pub no_none : HasNoNone s.state.locks
  pub locked : (t k : ℕ) → stand s k ≡ Absent → own s.state.locks t (Key k) ≡ 0
  -- each key of which a transaction has a change left is a name
  pub changed : (t k : ℕ) → is_some (find nat_cmp k (standing s.state t).changes) ≡ true → stand s k ≡ Absent → ⊥
